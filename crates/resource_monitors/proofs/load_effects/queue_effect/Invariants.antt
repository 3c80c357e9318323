use Rattle.std.proofs.Common.{◌≡◌, true}
use Rattle.khe_told.specs.Slots.{length_of}
use Rattle.khe_told.specs.Waits.{WaitOn}
use Rattle.resource_monitors.proofs.LoadEffectLaws.{AreQueuedTo}
use Rattle.resource_monitors.proofs.load_effects.queue_effect.Given as goal

abbrev pub invariant-loop-place : goal.invariant-loop-place
invariant-loop-place g l =
    record {
      same : g.W.Waits.monitors l.waits ≡ g.W.Waits.monitors l.fn.waits;
      kept : WaitOn (g.W.Waits.waits l.fn.waits) (g.W.Waits.waits l.waits);
      queued : g.W.Waits.hears ≡ true → AreQueuedTo l.inst l.effect.before.event (length_of l.effect.before)
          (length_of l.effect.after) l.effect.before.given l.effect.after.given l.place (g.W.Waits.waits l.waits);
    }
