use Rattle.std.proofs.Common.{◌≡◌}
use Rattle.resource_monitors.specs.Posts.{AreAdded}
use Rattle.resource_monitors.proofs.load_waits.add_all.Given as goal

abbrev pub invariant-loop-post : goal.invariant-loop-post
invariant-loop-post g l =
    record {
      same : g.W.Waits.monitors l.waits ≡ g.W.Waits.monitors l.fn.waits;
      added : AreAdded (λ m. g.W.Waits.hears) l.list l.post-index (g.W.Waits.waits l.fn.waits)
          (g.W.Waits.waits l.waits);
    }
