-- The durations of the events so far.
use Rattle.std.proofs.Common.{◌≡◌, map, take}
use Rattle.xhstt_completion.proofs.checking.durations_of.Given as goal

abbrev pub invariant-loop-number : goal.invariant-loop-number
invariant-loop-number l = l.durations.items ≡ map (λ e. e.duration) (take l.number l.inst.events)
