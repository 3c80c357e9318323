use Rattle.std.proofs.Common.{◌*◌, sym, ◌∙◌, arith}
use Rattle.khe_solution.specs.TaskRows.{tasks_of_all}
use Rattle.khe_solution.proofs.NumberLaws.{task_of, tasks_told}
use Rattle.khe_solution.proofs.SpotLaws.{row_below}
use Rattle.khe_solution.proofs.WantedLaws.{fewer_unwanted, out_unwanted, wanted_found, wanted_more}
use Rattle.khe_solution.proofs.tasks.first_wanted.Goals as goal

pub first_in_row-requires-clause-from : goal.first_in_row-requires-clause-from
first_in_row-requires-clause-from c =
    let a = tasks_told c.args.inst.now c.args.told.now c.facts.ensures.first_meets c.requires.told in
    let b = c.task_slots-end.ensures in
    let d = c.requires.kept.long in
    let e = c.loop-next-test.true in
    omega (arith, a, b, d, e)

pub returns-in_default : goal.returns-in_default
returns-in_default c =
    let s = c.args.told.now in
    let t = c.args.rows.now in
    fewer_unwanted s c.args.wanted c.args.from (64 * t.stride) (tasks_of_all s) c.requires.kept.long
    (out_unwanted s t c.args.wanted c.args.from c.loop-next.next (64 * t.stride) c.requires.kept
    (row_below c.args.wanted) c.loop-next.invariant.clear c.in_default.ensures)

pub returns-then-number-end : goal.returns-then-number-end
returns-then-number-end c =
    let s = c.args.told.now in
    let t = c.args.rows.now in
    let n = c.in-Some.number in
    let a = tasks_told c.args.inst.now s c.facts.ensures.first_meets c.requires.told in
    let b = c.task_slots-end.ensures in
    let d = c.if-number-end.true in
    fewer_unwanted s c.args.wanted c.args.from n (tasks_of_all s) (omega (arith, a, b, d))
    (out_unwanted s t c.args.wanted c.args.from c.loop-next.next n c.requires.kept (row_below c.args.wanted)
    c.loop-next.invariant.clear c.in-Some.ensures.3)

pub returns-then-has_task : goal.returns-then-has_task
returns-then-has_task c =
    let s = c.args.told.now in
    wanted_found s c.args.rows.now c.args.wanted c.args.from c.loop-next.next c.in-Some.number c.task-task.result
    c.requires.kept (row_below c.args.wanted) c.loop-next.invariant.after c.loop-next.invariant.clear
    c.in-Some.ensures (task_of c.args.inst.now s c.in-Some.number c.task-task.result c.facts.ensures.first_meets
    c.requires.told c.task-task.ensures)
    (sym c.has_task.ensures ∙ c.if-has_task.true)

pub loop-next-preserved : goal.loop-next-preserved
loop-next-preserved c =
    let s = c.args.told.now in
    let a = c.loop-next.invariant.after in
    let b = c.in-Some.ensures.0 in
    record {
      after = omega (arith, a, b);
      clear = wanted_more s c.args.rows.now c.args.wanted c.args.from c.loop-next.next c.in-Some.number
          c.task-task.result c.requires.kept (row_below c.args.wanted) c.loop-next.invariant.clear
          c.in-Some.ensures (task_of c.args.inst.now s c.in-Some.number c.task-task.result c.facts.ensures.first_meets
          c.requires.told c.task-task.ensures)
          (sym c.has_task.ensures ∙ c.if-has_task.false);
    }

pub returns : goal.returns
returns c =
    let s = c.args.told.now in
    let a = tasks_told c.args.inst.now s c.facts.ensures.first_meets c.requires.told in
    let b = c.task_slots-end.ensures in
    let d = c.loop-next-test.false in
    fewer_unwanted s c.args.wanted c.args.from c.loop-next.next (tasks_of_all s) (omega (arith, a, b, d))
    c.loop-next.invariant.clear
