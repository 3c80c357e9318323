use Rattle.std.proofs.Common.{drop}
use Rattle.event_monitors.proofs.Listing.{AreComing}
use Rattle.event_monitors.proofs.lists.push_all.Given as goal

abbrev pub invariant-loop-event : goal.invariant-loop-event
invariant-loop-event l = AreComing l.place l.fn.lists l.lists l.events (drop l.event-index l.events)
