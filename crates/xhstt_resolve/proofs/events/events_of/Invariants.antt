-- The events so far, with those that are left, are all; and so are their durations.
use Rattle.std.proofs.Common.{◌≡◌, ◌+◌, ◌++◌, drop}
use Rattle.std.specs.List.{sum_by}
use Rattle.xhstt_resolve.specs.Limits.{total_duration}
use Rattle.xhstt_resolve.specs.Parts.{events_from}
use Rattle.xhstt_resolve.proofs.events.events_of.Given as goal

abbrev pub invariant-loop-event : goal.invariant-loop-event
invariant-loop-event l = record {
  made : l.events ++ events_from l.lookup.instance.now l.next (drop l.event-index l.lookup.instance.now.events)
      ≡ events_from l.lookup.instance.now 0 l.lookup.instance.now.events;
  counted : l.next + sum_by (λ e. e.duration) (drop l.event-index l.lookup.instance.now.events)
      ≡ total_duration l.lookup.instance.now;
}
