-- The sum so far, with that of the events that are left, is the whole.
use Rattle.std.proofs.Common.{◌≡◌, ◌+◌, drop}
use Rattle.std.specs.List.{sum_by}
use Rattle.xhstt_shape.specs.declared.records.RawEvent.{RawEvent}
use Rattle.archive_generator.proofs.durations.total_duration.Given as goal

abbrev pub invariant-loop-event : goal.invariant-loop-event
invariant-loop-event l =
    l.total + sum_by (λ (e : RawEvent). e.duration) (drop l.event-index l.events)
    ≡ sum_by (λ (e : RawEvent). e.duration) l.events
