use Rattle.std.proofs.Common.{◌∙◌}
use Rattle.time_match.proofs.TaskLaws.{list_more, more_no, more_yes}
use Rattle.time_match.proofs.tasks.list_tasks.Goals as goal
use Rattle.time_match.proofs.tasks.list_tasks.Goals.{then-is_matched+in_ok-push, else-is_matched}

pub loop-number-preserved : goal.loop-number-preserved
loop-number-preserved c =
    let more =
    list_more c.args.inst.now c.args.solution.now.slots c.args.time.0 c.args.rtype c.loop-number.number
    c.task-task.result c.task-task.ensures in
    elim c.if-is_matched.branch [
      | then-is_matched+in_ok-push w ↦ w.tasks-is
          ∙ more_yes c.task-task.result _ _ _ c.loop-number.tasks _ _ c.is_matched.ensures w.if-is_matched.true
          c.loop-number.invariant w.in_ok-push.ensures.ok more
      | else-is_matched w ↦ w.tasks-is
          ∙ more_no c.task-task.result _ _ _ c.loop-number.tasks _ c.is_matched.ensures w.if-is_matched.false
          c.loop-number.invariant more
    ]
