use Rattle.std.proofs.Common.{◌≡◌, ◌<◌, subst, sym, ◌∙◌, arith}
use Rattle.khe_solution.specs.TaskRows.{first_in}
use Rattle.khe_solution.proofs.NumberLaws.{first_told}
use Rattle.repair_moves.specs.Items.{is_live_at, task_slots}
use Rattle.repair_moves.specs.Picked.{NonePass}
use Rattle.repair_moves.proofs.LiveTasks.{first_later, gap_dead, live_here, rest_dead}
use Rattle.repair_moves.proofs.PickedLaws.{none_on}
use Rattle.repair_moves.proofs.SlotLaws.{slot_below}
use Rattle.repair_moves.proofs.items.next_live_task.Goals as goal

pub returns-in_default : goal.returns-in_default
returns-in_default c =
    let p = c.args.inst.now in
    let s = c.args.solution.now.slots in
    let below : c.loop-slot.slot < task_slots p =
    let a = c.loop-slot-test.true in let b = c.task_slots.ensures in omega (arith, a, b) in
    rest_dead p s c.args.from c.loop-slot.slot c.task_at-task.result c.facts.ensures.made c.facts.ensures.valid.told
    below c.task_at-task.ensures c.in_default.ensures c.loop-slot.invariant.none

pub returns-then-next-task : goal.returns-then-next-task
returns-then-next-task c =
    let p = c.args.inst.now in
    let s = c.args.solution.now.slots in
    let e = c.in-Some.ensures in (
      c.loop-slot.invariant.onward,
      (let a = c.loop-slot-test.true in let b = c.task_slots.ensures in omega (arith, a, b)),
      live_here p s c.loop-slot.slot c.in-Some.next.0 c.task_at-task.result c.task_at-task.ensures
          c.if-next-task.true e.1,
      c.loop-slot.invariant.none,
      c.task_at-task.ensures,
    )

pub first_task-slot-requires : goal.first_task-slot-requires
first_task-slot-requires c =
    let e = c.in-Some.ensures in
    slot_below c.args.inst.now c.args.solution.now.slots c.in-Some.next.0 c.facts.ensures.made
    c.facts.ensures.valid.told e.1

pub loop-slot-preserved : goal.loop-slot-preserved
loop-slot-preserved c =
    let p = c.args.inst.now in
    let s = c.args.solution.now.slots in
    let made = c.facts.ensures.made in
    let told = c.facts.ensures.valid.told in
    let slot = c.loop-slot.slot in
    let m = c.in-Some.next.0 in
    let e = c.in-Some.ensures in
    let first : c.first_task-slot.result ≡ first_in s m = c.first_task-slot.ensures ∙ first_told p s m made.first_meets told in
    let below : slot < task_slots p =
    let a = c.loop-slot-test.true in let b = c.task_slots.ensures in omega (arith, a, b) in
    let after : c.task_at-task.result.meet.0 < m =
    let a = e.0 in let b = c.if-next-task.false in omega (arith, a, b) in
    let later = first_later p s slot m c.task_at-task.result made told below c.task_at-task.ensures after in
    let o = c.loop-slot.invariant.onward in
    record {
      onward = omega (arith, first, later, o);
      none = subst (λ n. NonePass (is_live_at p s) c.args.from n) (sym first)
          (gap_dead p s c.args.from slot m c.task_at-task.result made told below c.task_at-task.ensures e.2
          c.loop-slot.invariant.none);
    }

pub loop-slot-smaller : goal.loop-slot-smaller
loop-slot-smaller c =
    let p = c.args.inst.now in
    let s = c.args.solution.now.slots in
    let made = c.facts.ensures.made in
    let told = c.facts.ensures.valid.told in
    let slot = c.loop-slot.slot in
    let m = c.in-Some.next.0 in
    let e = c.in-Some.ensures in
    let first : c.first_task-slot.result ≡ first_in s m = c.first_task-slot.ensures ∙ first_told p s m made.first_meets told in
    let below : slot < task_slots p =
    let a = c.loop-slot-test.true in let b = c.task_slots.ensures in omega (arith, a, b) in
    let after : c.task_at-task.result.meet.0 < m =
    let a = e.0 in let b = c.if-next-task.false in omega (arith, a, b) in
    let later = first_later p s slot m c.task_at-task.result made told below c.task_at-task.ensures after in
    omega (arith, first, later, below)

pub returns : goal.returns
returns c =
    let p = c.args.inst.now in
    let s = c.args.solution.now.slots in
    none_on (is_live_at p s) c.args.from c.loop-slot.slot (task_slots p) c.loop-slot.invariant.none
    (λ k a b. absurd (let l = c.loop-slot-test.false in let many = c.task_slots.ensures in omega (arith, l, many, a, b)))
