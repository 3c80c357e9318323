use Rattle.std.proofs.Common.{arith}
use Rattle.khe_solution.proofs.KeptLaws.{entered_none}
use Rattle.khe_solution.proofs.NumberLaws.{tasks_told}
use Rattle.khe_solution.proofs.tasks.rows_of.Goals as goal

pub enter_all-requires-clause-none : goal.enter_all-requires-clause-none
enter_all-requires-clause-none c =
    let a = tasks_told c.args.inst.now c.args.told.now c.facts.ensures.first_meets c.requires.told in
    let b = c.task_slots.ensures in
    let d = c.in_ok-rows.ensures.long in
    entered_none c.args.told.now c.in_ok-rows.rows c.in_ok-rows.ensures.rows (omega (arith, a, b, d))
    c.in_ok-rows.ensures.none
