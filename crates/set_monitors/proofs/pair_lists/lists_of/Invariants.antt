use Rattle.event_monitors.proofs.Listing.{AreListedTo}
use Rattle.set_monitors.proofs.pair_lists.lists_of.Given as goal

abbrev pub invariant-loop-place : goal.invariant-loop-place
invariant-loop-place l = AreListedTo l.inst l.posts l.lists l.place
