-- That no timetable and no state that stands costs more than the limits allow.
use Rattle.khe_engine.specs.Small.{AreWithin, CostsLittle}
use Rattle.khe_engine.specs.States.{State}
use Rattle.khe_instance.specs.Evaluated as evaluated
use Rattle.khe_instance.specs.States.{IsTold}
use Rattle.khe_instance.specs.WellMade.{AreWellMade}
use Rattle.khe_instance.specs.declared.parts.Parts.{Parts}
use Rattle.khe_instance.specs.declared.states.Plain.{Plain}
use Rattle.engine_laws.specs.Standing.{Stands}

-- those of a timetable
abbrev pub TimetablesCostLittle : Type 0
TimetablesCostLittle = (p : Parts) (s : Plain) → AreWellMade p → IsTold p s.meets s.tasks
    → AreWithin (evaluated.deviations p s) (evaluated.costs p s) (evaluated.totals p s)

-- those of a state that stands, and what each of its groups costs
abbrev pub StatesCostLittle : Type 0
StatesCostLittle = (p : Parts) (s : State) → AreWellMade p → Stands p s → CostsLittle p s
