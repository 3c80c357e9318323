use Rattle.std.proofs.Common.{◌≡◌, ◌∙◌, ap, sym, false}
use Rattle.std.proofs.lemmas.List.{get_or_past}
use Rattle.khe_base.specs.Bits.{is_set}
use Rattle.khe_base.specs.IdSet.{has_member}
use Rattle.khe_base.proofs.IdSetLemmas.{has_member-set_of_bits}
use Rattle.khe_base.proofs.id_sets.IdSet.has.Goals as goal

pub returns-clause-below : goal.returns-clause-below
returns-clause-below c =
    let words = c.self.inside.words.items in
    c.is_set.ensures ∙ ap (λ w. is_set w c.args.n) c.as_slice.ensures.value
    ∙ sym (has_member-set_of_bits words c.self.inside.size c.self.invariant.beyond c.args.n)
    ∙ ap (λ s. has_member s c.args.n) c.self.view_is

pub returns-clause-beyond : goal.returns-clause-beyond
returns-clause-beyond c past =
    let words = c.self.inside.words.items in
    let below : c.is_set.result ≡ has_member c.args.self.now c.args.n =
    c.is_set.ensures ∙ ap (λ w. is_set w c.args.n) c.as_slice.ensures.value
    ∙ sym (has_member-set_of_bits words c.self.inside.size c.self.invariant.beyond c.args.n)
    ∙ ap (λ s. has_member s c.args.n) c.self.view_is
    in
    below ∙ get_or_past c.args.self.now c.args.n false past
