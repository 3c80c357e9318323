use Rattle.std.proofs.Common.{◌∙◌}
use Rattle.time_match.specs.Leaders.{is_avoidance_at}
use Rattle.time_match.proofs.LikenessLaws.{numbers_more}
use Rattle.time_match.proofs.TaskLaws.{more_no, more_yes}
use Rattle.time_match.proofs.likenesses.list_avoidances.Goals as goal
use Rattle.time_match.proofs.likenesses.list_avoidances.Goals.{then-is_avoidance+in_ok-push, else-is_avoidance}

pub loop-number-preserved : goal.loop-number-preserved
loop-number-preserved c =
    let more = numbers_more (is_avoidance_at c.args.inst.now) c.loop-number.number in
    elim c.if-is_avoidance.branch [
      | then-is_avoidance+in_ok-push w ↦ w.numbers-is
          ∙ more_yes c.loop-number.number _ _ _ c.loop-number.numbers _ _ c.is_avoidance.ensures w.if-is_avoidance.true
          c.loop-number.invariant w.in_ok-push.ensures.ok more
      | else-is_avoidance w ↦ w.numbers-is
          ∙ more_no c.loop-number.number _ _ _ c.loop-number.numbers _ c.is_avoidance.ensures w.if-is_avoidance.false
          c.loop-number.invariant more
    ]
