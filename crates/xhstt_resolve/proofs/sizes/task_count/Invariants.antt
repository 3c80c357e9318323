-- The sum so far, with that of the events that are left, is the whole.
use Rattle.std.proofs.Common.{◌≡◌, ◌+◌, ◌*◌, ◌≤◌, ◌^◌, drop, length}
use Rattle.std.specs.List.{sum_by}
use Rattle.xhstt_resolve.specs.Limits.{task_count}
use Rattle.xhstt_resolve.specs.Parts.{places_of}
use Rattle.xhstt_resolve.proofs.sizes.task_count.Given as goal

abbrev pub invariant-loop-event : goal.invariant-loop-event
invariant-loop-event l = record {
  counted : l.total + sum_by (λ e. e.duration * length (places_of l.lookup.instance.now e))
      (drop l.event-index l.lookup.instance.now.events) ≡ task_count l.lookup.instance.now;
  small : l.total ≤ l.event-index * 2 ^ 112;
}
