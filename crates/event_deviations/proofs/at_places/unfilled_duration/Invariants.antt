use Rattle.std.proofs.Common.{◌≡◌, ◌≤◌, sum_by, take}
use Rattle.khe_instance.specs.EventDeviation.{unfilled_duration}
use Rattle.event_deviations.proofs.at_places.unfilled_duration.Given as goal

abbrev pub invariant-loop-duty : goal.invariant-loop-duty
invariant-loop-duty l = record {
  exact : l.total ≡ sum_by (λ d. unfilled_duration d.resource d.meet.duration) (take l.duty-index l.duties);
  bound : l.total ≤ sum_by (λ d. d.meet.duration) (take l.duty-index l.duties);
}
