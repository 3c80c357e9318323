use Rattle.std.proofs.Common.{◌≡◌}
use Rattle.resource_monitors.specs.Effects.{is_changed}
use Rattle.resource_monitors.specs.Posts.{AreAdded}
use Rattle.resource_monitors.proofs.cell_effects.add_changed.Given as goal

abbrev pub invariant-loop-post : goal.invariant-loop-post
invariant-loop-post g l =
    record {
      same : g.W.Waits.monitors l.waits ≡ g.W.Waits.monitors l.fn.waits;
      added : AreAdded (λ m. is_changed m.kind l.busy l.clashes) l.list l.post-index (g.W.Waits.waits l.fn.waits)
          (g.W.Waits.waits l.waits);
    }
