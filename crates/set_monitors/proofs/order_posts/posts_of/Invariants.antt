use Rattle.set_monitors.specs.OrderPairs.{is_order}
use Rattle.event_monitors.proofs.PostLaws.{AreServed}
use Rattle.set_monitors.proofs.order_posts.posts_of.Given as goal

abbrev pub invariant-loop-i : goal.invariant-loop-i
invariant-loop-i l = AreServed l.inst is_order l.i l.posts
