use Rattle.event_monitors.proofs.PostLaws.{AreServed}
use Rattle.event_monitors.proofs.posts.posts_of.Given as goal

abbrev pub invariant-loop-i : goal.invariant-loop-i
invariant-loop-i g l = AreServed l.inst g.G.Gauge.serves_kind l.i l.posts
