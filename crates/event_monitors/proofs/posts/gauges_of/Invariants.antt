use Rattle.std.proofs.Common.{◌≡◌, length}
use Rattle.khe_told.specs.Slots.{no_meets}
use Rattle.event_monitors.specs.Posts.{AreKept}
use Rattle.event_monitors.proofs.posts.gauges_of.Given as goal

abbrev pub invariant-loop-post : goal.invariant-loop-post
invariant-loop-post g l =
    record {
      amount : length l.gauges.items ≡ l.post-index;
      kept : AreKept g.G.Gauge.Keeps l.inst l.posts l.gauges.items (no_meets l.inst);
    }
