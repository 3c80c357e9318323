use Rattle.std.proofs.Common.{◌≡◌, ◌≤◌, sum_by, take}
use Rattle.khe_instance.specs.EventDeviation.{misfilled_duration}
use Rattle.event_deviations.proofs.at_places.misfilled_duration.Given as goal

abbrev pub invariant-loop-duty : goal.invariant-loop-duty
invariant-loop-duty l = record {
  exact : l.total ≡ sum_by (λ d. misfilled_duration l.resources d.resource d.meet.duration)
      (take l.duty-index l.duties);
  bound : l.total ≤ sum_by (λ d. d.meet.duration) (take l.duty-index l.duties);
}
