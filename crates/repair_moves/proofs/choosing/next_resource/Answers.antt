use Rattle.std.proofs.Common.{true, false, sym, ap, ◌∙◌, arith, length}
use Rattle.repair_moves.specs.Moves.{is_accepted, is_choice}
use Rattle.repair_moves.specs.declared.parts.Part.TheVariants.{TaskMoves}
use Rattle.repair_moves.proofs.ChoiceLaws as laws
use Rattle.repair_moves.proofs.PickedLaws.{none_more, none_on}
use Rattle.repair_moves.proofs.choosing.next_resource.Goals as goal
use Rattle.repair_moves.proofs.choosing.next_resource.Goals.{then-has_type+else-accepts, else-has_type}
use Rattle.repair_moves.specs.Moves.{task_move}

pub returns-in_err-own-clause-next : goal.returns-in_err-own-clause-next
returns-in_err-own-clause-next c = rw c.from_residual.ensures
    (λ k a b. laws.place_dead c.args.inst.now c.args.solution.now.slots c.args.point c.args.item k
    (laws.dead_at c.args.inst.now c.args.solution.now.slots c.args.item c.args.task c.requires.task
    c.in_err-own.ensures))

pub returns-then-is_fixed_place-clause-next : goal.returns-then-is_fixed_place-clause-next
returns-then-is_fixed_place-clause-next c = λ k a b. laws.resource_fixed c.args.inst.now c.args.solution.now.slots
    c.args.point c.args.item k (laws.fixed_at c.args.inst.now c.args.solution.now.slots c.args.item
    c.args.task c.in_ok-own.own.event true c.requires.task c.in_ok-own.ensures.event
    (sym c.is_fixed_place.ensures ∙ c.if-is_fixed_place.true))

pub returns-then-accepts-clause-next : goal.returns-then-accepts-clause-next
returns-then-accepts-clause-next c =
    let l = c.loop-number-test.true in
    let many = c.resources-number-end.ensures in (
      c.loop-number.invariant.onward,
      omega arith,
      laws.TaskMoves_is c.args.inst.now c.args.solution.now.slots
          c.args.point c.args.item c.loop-number.number
          ∙ ap (λ t. is_accepted c.args.inst.now c.args.solution.now.slots
          (task_move c.args.solution.now.slots t c.loop-number.number)) (sym c.requires.task)
          ∙ ap (is_accepted c.args.inst.now c.args.solution.now.slots) (sym c.task_move-edit.ensures.edit)
          ∙ sym c.accepts.ensures ∙ c.if-accepts.true,
      c.loop-number.invariant.none,
    )

pub loop-number-preserved : goal.loop-number-preserved
loop-number-preserved c = record {
  onward = let o = c.loop-number.invariant.onward in omega (arith, o);
  none = none_more (is_choice c.args.inst.now c.args.solution.now.slots c.args.point TaskMoves c.args.item) c.args.from
      c.loop-number.number c.loop-number.invariant.none (elim c.if-has_type.branch [
        | then-has_type+else-accepts w ↦
            laws.TaskMoves_is c.args.inst.now c.args.solution.now.slots c.args.point c.args.item c.loop-number.number
            ∙ ap (λ t. is_accepted c.args.inst.now c.args.solution.now.slots
            (task_move c.args.solution.now.slots t c.loop-number.number)) (sym c.requires.task)
            ∙ ap (is_accepted c.args.inst.now c.args.solution.now.slots) (sym w.task_move-edit.ensures.edit)
            ∙ sym w.accepts.ensures ∙ w.if-accepts.false
        | else-has_type w ↦
            laws.resource_typed c.args.inst.now c.args.solution.now.slots c.args.point c.args.item c.loop-number.number
            (laws.typed_at c.args.inst.now c.args.solution.now.slots c.args.item c.loop-number.number c.args.task
            c.in_ok-own.own.event false c.requires.task c.in_ok-own.ensures.event
            (sym c.has_type.ensures ∙ w.if-has_type.false))
      ]);
}

pub returns-clause-next : goal.returns-clause-next
returns-clause-next c =
    none_on (is_choice c.args.inst.now c.args.solution.now.slots c.args.point TaskMoves c.args.item) c.args.from
    c.loop-number.number (length c.args.inst.now.resources) c.loop-number.invariant.none
    (λ k a b. absurd (let l = c.loop-number-test.false in let many = c.resources-number-end.ensures in omega arith))
