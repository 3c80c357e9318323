use Rattle.std.proofs.Common.{Some, None, sym, subst, arith}
use Rattle.repair_moves.specs.Items.{is_free_at, task_at, task_slots}
use Rattle.khe_solution.specs.NextTask.{has_task}
use Rattle.repair_moves.specs.Picked.{IsFirst}
use Rattle.repair_moves.proofs.ItemLaws as laws
use Rattle.repair_moves.proofs.TaskLaws as tasks
use Rattle.repair_moves.proofs.items.next_free.Goals as goal

pub returns-in_err-task : goal.returns-in_err-task
unfolding is_free_at
returns-in_err-task c = rw c.from_residual.ensures
    (tasks.no_slot_passes c.args.inst.now c.args.solution.now.slots (has_task c.args.solution.now.slots None)
    c.args.from c.task_at.result c.facts.ensures.made c.facts.ensures.valid.told
    (let l = c.if-from-task_slots.false in let n = c.task_slots.ensures in omega (arith, l, n)) c.task_at.ensures
    c.in_err-task.ensures)

pub number_of-requires-clause-meet : goal.number_of-requires-clause-meet
number_of-requires-clause-meet c = laws.meet_below c.args.inst.now c.args.solution.now.slots c.in_ok-task.task
    c.facts.ensures.made c.facts.ensures.valid.told
    (tasks.there_in c.args.solution.now.slots c.in_ok-task.task _ c.in_ok-task.ensures.1)

pub number_of-requires-clause-small : goal.number_of-requires-clause-small
number_of-requires-clause-small c = laws.number_small c.args.inst.now c.args.solution.now.slots c.in_ok-task.task
    c.facts.ensures.made c.facts.ensures.valid.told
    (tasks.there_in c.args.solution.now.slots c.in_ok-task.task _ c.in_ok-task.ensures.1)

pub returns : goal.returns
unfolding is_free_at
returns c =
    let e = c.in_ok-task.ensures in
    subst (λ n. IsFirst (λ k. (has_task c.args.solution.now.slots None) (task_at c.args.inst.now k)) c.args.from
    (task_slots c.args.inst.now) (Some n)) (sym c.number_of.ensures)
    (tasks.first_slot c.args.inst.now c.args.solution.now.slots (has_task c.args.solution.now.slots None) c.args.from
    c.task_at.result c.in_ok-task.task c.facts.ensures.made c.facts.ensures.valid.told
    (let l = c.if-from-task_slots.false in let n = c.task_slots.ensures in omega (arith, l, n)) c.task_at.ensures
    (tasks.there_in c.args.solution.now.slots c.in_ok-task.task _ c.in_ok-task.ensures.1).1 e.0 e.1 e.2)
