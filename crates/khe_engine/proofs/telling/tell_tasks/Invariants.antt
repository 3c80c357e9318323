-- So many places are told.
use Rattle.std.proofs.Common.{◌≡◌, set}
use Rattle.khe_told.specs.Slots.{slot_at}
use Rattle.khe_engine.specs.Openings.{coming, told_to}
use Rattle.khe_engine.proofs.telling.tell_tasks.Given as goal

abbrev pub invariant-loop-place : goal.invariant-loop-place
invariant-loop-place g l =
    let s = l.solution.slots in
    record {
      of : g.V.Watcher.IsOf l.watcher l.inst;
      told : g.V.Watcher.told l.watcher ≡ set (told_to l.number.0 s) l.number.0 (coming l.place (slot_at s l.number.0));
      rest : g.V.Watcher.HasSameRest l.fn.watcher l.watcher;
    }
