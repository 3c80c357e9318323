use Rattle.std.proofs.Common.{◌-◌}
use Rattle.set_monitors.proofs.EventRankLaws.{IsSought}
use Rattle.set_monitors.proofs.event_ranks.rank_of.Given as goal

abbrev pub invariant-loop-low : goal.invariant-loop-low
invariant-loop-low l = IsSought l.events l.event.0 l.low l.end

abbrev pub decreases-loop-low : goal.decreases-loop-low
decreases-loop-low l = l.end - l.low
