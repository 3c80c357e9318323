-- So many slots are told.
use Rattle.std.proofs.Common.{◌≡◌}
use Rattle.khe_engine.specs.Openings.{told_to}
use Rattle.khe_engine.proofs.telling.tell_all.Given as goal

abbrev pub invariant-loop-number : goal.invariant-loop-number
invariant-loop-number g l = record {
  of : g.V.Watcher.IsOf l.watcher l.inst;
  told : g.V.Watcher.told l.watcher ≡ told_to l.number l.solution.slots;
  rest : g.V.Watcher.HasSameRest l.fn.watcher l.watcher;
}
