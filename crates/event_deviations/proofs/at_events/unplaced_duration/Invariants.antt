use Rattle.std.proofs.Common.{◌≡◌, ◌≤◌, sum_by, take}
use Rattle.khe_instance.specs.EventDeviation.{unplaced_duration}
use Rattle.event_deviations.proofs.at_events.unplaced_duration.Given as goal

abbrev pub invariant-loop-meet : goal.invariant-loop-meet
invariant-loop-meet l = record {
  exact : l.total ≡ sum_by (λ m. unplaced_duration m.start m.duration) (take l.meet-index l.meets);
  bound : l.total ≤ sum_by (λ m. m.duration) (take l.meet-index l.meets);
}
