use Rattle.std.proofs.Common.{◌≡◌, drop}
use Rattle.khe_told.specs.Fits.{AllFit}
use Rattle.khe_told.specs.Changes.{after_all}
use Rattle.khe_solution.proofs.notes.note_all.Given as goal

abbrev pub invariant-loop-change : goal.invariant-loop-change
invariant-loop-change g l =
    let rest = drop l.change-index l.list in
    record {
      fits : AllFit l.inst l.slots rest;
      told : after_all l.slots rest ≡ after_all l.fn.slots l.list;
    }
