use Rattle.event_deviations.proofs.StartLemmas.{AreCounted}
use Rattle.event_deviations.proofs.starts.count_meets.Given as goal

abbrev pub invariant-loop-meet : goal.invariant-loop-meet
invariant-loop-meet l = AreCounted l.fn.starts l.starts l.meets l.meet-index
