use Rattle.std.proofs.Common.{◌≤◌, ℕ, sym, subst}
use Rattle.repair_moves.proofs.TaskLaws.{task_past}
use Rattle.repair_moves.proofs.reads.task_at.Goals as goal

pub returns-else-slot-task_slots : goal.returns-else-slot-task_slots
returns-else-slot-task_slots c =
    let P : ℕ → Type 0 = λ n. n ≤ c.args.slot in
    sym (task_past c.args.inst.now c.args.slot (subst P c.task_slots.ensures c.if-slot-task_slots.false))
