-- The sum so far, with that of the events that are left, is the whole.
use Rattle.std.proofs.Common.{◌≡◌, ◌+◌, ◌*◌, ◌≤◌, ◌^◌, drop}
use Rattle.std.specs.List.{sum_by}
use Rattle.xhstt_resolve.specs.Limits.{total_duration}
use Rattle.xhstt_resolve.proofs.sizes.total_duration.Given as goal

abbrev pub invariant-loop-event : goal.invariant-loop-event
invariant-loop-event l = record {
  counted : l.total + sum_by (λ e. e.duration) (drop l.event-index l.instance.events) ≡ total_duration l.instance;
  small : l.total ≤ l.event-index * 2 ^ 32;
}
