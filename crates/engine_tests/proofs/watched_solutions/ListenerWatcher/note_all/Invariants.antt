use Rattle.std.proofs.Common.{◌≡◌, drop}
use Rattle.khe_told.specs.Fits.{AllFit}
use Rattle.khe_told.specs.Changes.{after_all}
use Rattle.engine_tests.proofs.watched_solutions.ListenerWatcher.note_all.Given as goal

abbrev pub invariant-loop-change : goal.invariant-loop-change
invariant-loop-change g l =
    let rest = drop l.change-index l.changes in
    record {
      fit : AllFit l.inst l.self.told rest;
      told : after_all l.self.told rest ≡ after_all l.fn.self.told l.changes;
    }
