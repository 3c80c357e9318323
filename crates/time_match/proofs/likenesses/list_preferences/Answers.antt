use Rattle.std.proofs.Common.{◌∙◌}
use Rattle.time_match.specs.Leaders.{is_preference_at}
use Rattle.time_match.proofs.LikenessLaws.{numbers_more}
use Rattle.time_match.proofs.TaskLaws.{more_no, more_yes}
use Rattle.time_match.proofs.likenesses.list_preferences.Goals as goal
use Rattle.time_match.proofs.likenesses.list_preferences.Goals.{then-is_preference+in_ok-push, else-is_preference}

pub loop-number-preserved : goal.loop-number-preserved
loop-number-preserved c =
    let more = numbers_more (is_preference_at c.args.inst.now) c.loop-number.number in
    elim c.if-is_preference.branch [
      | then-is_preference+in_ok-push w ↦ w.numbers-is
          ∙ more_yes c.loop-number.number _ _ _ c.loop-number.numbers _ _ c.is_preference.ensures
          w.if-is_preference.true
          c.loop-number.invariant w.in_ok-push.ensures.ok more
      | else-is_preference w ↦ w.numbers-is
          ∙ more_no c.loop-number.number _ _ _ c.loop-number.numbers _ c.is_preference.ensures w.if-is_preference.false
          c.loop-number.invariant more
    ]
