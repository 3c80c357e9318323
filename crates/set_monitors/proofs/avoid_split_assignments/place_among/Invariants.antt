use Rattle.std.proofs.Common.{◌-◌}
use Rattle.set_monitors.proofs.CandidateLaws.{IsSought}
use Rattle.set_monitors.proofs.avoid_split_assignments.place_among.Given as goal

abbrev pub invariant-loop-low : goal.invariant-loop-low
invariant-loop-low l = IsSought l.numbers l.number l.low l.end

abbrev pub decreases-loop-low : goal.decreases-loop-low
decreases-loop-low l = l.end - l.low
