use Rattle.std.proofs.Common.{true, false, sym, ◌∙◌, arith}
use Rattle.repair_moves.specs.Items.{is_open_at, task_slots}
use Rattle.repair_moves.proofs.ItemLaws as laws
use Rattle.repair_moves.proofs.PickedLaws.{none_more, none_on}
use Rattle.repair_moves.proofs.items.next_open.Goals as goal

pub may_be_given-requires-clause-live : goal.may_be_given-requires-clause-live
may_be_given-requires-clause-live c = laws.open_live c.args.inst.now c.args.solution.now.slots c.in-Some.slot
    c.task_at.result c.in-Some.ensures.2 c.task_at.ensures

pub returns-then-may_be_given : goal.returns-then-may_be_given
returns-then-may_be_given c =
    let o = c.loop-slot.invariant.onward in
    let n = c.in-Some.ensures.0 in (
      omega (arith, o, n),
      c.in-Some.ensures.1,
      (laws.open_may c.args.inst.now c.args.solution.now.slots c.args.point
          c.in-Some.slot c.task_at.result true c.in-Some.ensures.2 c.task_at.ensures
          (sym c.if-may_be_given.true ∙ c.may_be_given.ensures)),
      (none_on (is_open_at c.args.inst.now c.args.solution.now.slots c.args.point) c.args.from c.loop-slot.next
          c.in-Some.slot c.loop-slot.invariant.none (λ k a b. laws.open_free c.args.inst.now c.args.solution.now.slots
          c.args.point k (c.in-Some.ensures.3 k a b))),
    )

pub overflow_add-next : goal.overflow_add-next
overflow_add-next c = let l = c.in-Some.ensures.1 in let d = c.facts.ensures.made.limits.tasks in omega (arith, l, d)

pub loop-slot-preserved : goal.loop-slot-preserved
loop-slot-preserved c = record {
  onward = let o = c.loop-slot.invariant.onward in let n = c.in-Some.ensures.0 in omega (arith, o, n);
  none = none_more (is_open_at c.args.inst.now c.args.solution.now.slots c.args.point) c.args.from c.in-Some.slot
      (none_on (is_open_at c.args.inst.now c.args.solution.now.slots c.args.point) c.args.from c.loop-slot.next
      c.in-Some.slot c.loop-slot.invariant.none (λ k a b. laws.open_free c.args.inst.now c.args.solution.now.slots
      c.args.point k (c.in-Some.ensures.3 k a b))) (laws.open_may c.args.inst.now c.args.solution.now.slots c.args.point
      c.in-Some.slot c.task_at.result false c.in-Some.ensures.2 c.task_at.ensures
      (sym c.if-may_be_given.false ∙ c.may_be_given.ensures));
}

pub returns : goal.returns
returns c =
    none_on (is_open_at c.args.inst.now c.args.solution.now.slots c.args.point) c.args.from c.loop-slot.next
    (task_slots c.args.inst.now) c.loop-slot.invariant.none
    (λ k a b. laws.open_free c.args.inst.now c.args.solution.now.slots c.args.point k (c.in_default.ensures k a b))
