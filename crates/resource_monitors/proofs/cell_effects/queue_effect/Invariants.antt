use Rattle.std.proofs.Common.{◌≡◌, take}
use Rattle.khe_told.specs.Effects.{turned_all}
use Rattle.khe_told.specs.Waits.{WaitOn}
use Rattle.resource_monitors.specs.Effects.{AreCellsSettled}
use Rattle.resource_monitors.specs.Runs.{run_of}
use Rattle.resource_monitors.proofs.cell_effects.queue_effect.Given as goal

abbrev pub invariant-loop-place : goal.invariant-loop-place
invariant-loop-place g l =
    record {
      same : g.W.Waits.monitors l.waits ≡ g.W.Waits.monitors l.fn.waits;
      kept : WaitOn (g.W.Waits.waits l.fn.waits) (g.W.Waits.waits l.waits);
      settled : AreCellsSettled l.inst g.K.CellKinds.serves_kind l.told (turned_all l.told l.effects)
          (run_of l.effect.before.span) (run_of l.effect.after.span) (take l.place l.effect.before.given)
          (take l.place l.effect.after.given) (g.W.Waits.waits l.waits);
    }
