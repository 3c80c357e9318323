use Rattle.std.proofs.Common.{◌≡◌, drop}
use Rattle.khe_told.specs.Changes.{after_all}
use Rattle.khe_told.specs.Fits.{AllFit}
use Rattle.family_keepers.proofs.keeping.note_all.Given as goal

abbrev pub invariant-loop-change : goal.invariant-loop-change
invariant-loop-change l =
    let rest = drop l.change-index l.changes in
    record {
      fit : AllFit l.inst l.told rest;
      told : after_all l.told rest ≡ after_all l.fn.told l.changes;
    }
