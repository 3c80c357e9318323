use Rattle.std.proofs.Common.{◌∙◌, ap, sym, ◌+◌, ◌++◌, ◌∷◌, []}
use Rattle.std.proofs.lemmas.List.{append-nil}
use Rattle.khe_base.proofs.MembersLemmas.{members_in-zero, members_in-set, members_in-clear, members_in-nothing}
use Rattle.khe_base.proofs.id_sets.push_members.Goals.{then-has_bit+in_ok-push, else-has_bit}
use Rattle.khe_base.proofs.id_sets.push_members.Goals as goal

pub loop-place-preserved : goal.loop-place-preserved
loop-place-preserved c =
    let xs = c.args.members.now in
    elim c.if-has_bit.branch [
      | then-has_bit+in_ok-push w ↦
          w.members-is ∙ w.in_ok-push.ensures.ok ∙ ap (λ ms. ms ++ (c.args.first + c.loop-place.place) ∷ [])
          c.loop-place.invariant
          ∙ members_in-set xs c.args.word c.args.first c.loop-place.place c.has_bit.result c.has_bit.ensures
          w.if-has_bit.true
      | else-has_bit w ↦
          w.members-is ∙ c.loop-place.invariant
          ∙ members_in-clear xs c.args.word c.args.first c.loop-place.place c.has_bit.result c.has_bit.ensures
          w.if-has_bit.false
    ]

pub loop-place-init : goal.loop-place-init
loop-place-init c = sym (append-nil c.args.members.now)
    ∙ ap (λ ms. c.args.members.now ++ ms) (sym (members_in-zero c.args.word c.args.first))

pub returns-then-word-eq0 : goal.returns-then-word-eq0
returns-then-word-eq0 c = members_in-nothing c.args.members.now c.args.word c.args.first 64 c.if-word-eq0.true
