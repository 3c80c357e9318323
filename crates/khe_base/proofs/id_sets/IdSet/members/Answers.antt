use Rattle.std.proofs.Common.{◌≡◌, ◌*◌, ◌≤◌, ◌^◌, ◌∙◌, ap, subst, sym, List, ℕ, length}
use Rattle.std.proofs.lemmas.Result.{IfOk-weaker}
use Rattle.khe_base.specs.IdSet.{members_of}
use Rattle.khe_base.specs.StoredSets.{members_below}
use Rattle.khe_base.proofs.MembersLemmas.{members_below-whole, words_fit}
use Rattle.khe_base.proofs.id_sets.IdSet.members.Goals as goal

pub listed-requires : goal.listed-requires
listed-requires c =
    subst (λ (w : List ℕ). 64 * length w ≤ 2 ^ 32) (sym c.as_slice.ensures.value)
    (words_fit c.self.inside.words.items c.self.inside.size c.self.inside.count c.self.invariant)

pub returns : goal.returns
returns c =
    let words = c.self.inside.words.items in
    IfOk-weaker c.listed.result (λ ms. ms ≡ members_below c.as_slice.result.now (64 * length c.as_slice.result.now))
    (λ ms. ms ≡ members_of c.args.self.now)
    (λ ms h.
    h ∙ ap (λ (w : List ℕ). members_below w (64 * length w)) c.as_slice.ensures.value
    ∙ members_below-whole words c.self.inside.size c.self.inside.count c.args.self.now c.self.invariant c.self.view_is)
    c.listed.ensures
