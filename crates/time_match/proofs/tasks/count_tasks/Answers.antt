use Rattle.std.proofs.Common.{◌∙◌, arith}
use Rattle.time_match.proofs.TaskLaws.{count_more, count_no, count_yes}
use Rattle.time_match.proofs.tasks.count_tasks.Goals as goal
use Rattle.time_match.proofs.tasks.count_tasks.Goals.{then-is_matched, else-is_matched}

pub loop-number-preserved : goal.loop-number-preserved
loop-number-preserved c =
    let more =
    count_more c.args.inst.now c.args.solution.now.slots c.args.time.0 c.args.rtype c.loop-number.number
    c.task-task.result c.task-task.ensures in
    let few = c.loop-number.invariant.few in
    elim c.if-is_matched.branch [
      | then-is_matched w ↦ (let e = w.count-is in record {
        counted = e ∙ count_yes _ _ _ c.loop-number.count _ c.is_matched.ensures w.if-is_matched.true
            c.loop-number.invariant.counted more;
        few = omega (arith, e, few);
      })
      | else-is_matched w ↦ (let e = w.count-is in record {
        counted = e ∙ count_no _ _ _ c.loop-number.count _ c.is_matched.ensures w.if-is_matched.false
            c.loop-number.invariant.counted more;
        few = omega (arith, e, few);
      })
    ]
