use Rattle.std.proofs.Common.{◌≡◌, drop}
use Rattle.khe_told.specs.Fits.{AllFit}
use Rattle.khe_told.specs.Changes.{after_all}
use Rattle.hall_report.specs.Kept.{AreOf}
use Rattle.hall_report.proofs.demands.Demands.tell_all.Given as goal

abbrev pub invariant-loop-change : goal.invariant-loop-change
invariant-loop-change l =
    let d = l.self in
    let rest = drop l.change-index l.changes in
    record {
      of : AreOf l.inst d.told d.units d.picks d.matching d.cells d.tasks d.times;
      fit : AllFit l.inst d.told rest;
      told : after_all d.told rest ≡ after_all l.fn.self.told l.changes;
    }
