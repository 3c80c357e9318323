-- The engine's instance and timetable are those that it lends.
use Rattle.std.proofs.Common.{List, subst}
use Rattle.khe_instance.specs.WellMade.{AreWellMade}
use Rattle.khe_instance.specs.declared.parts.Parts.{Parts}
use Rattle.khe_told.specs.Valid.{AreValid}
use Rattle.khe_told.specs.declared.slots.Slot.{Slot}
use Rattle.time_match.proofs.reads.facts.Goals as goal

pub returns-clause-made : goal.returns-clause-made
returns-clause-made g c = subst AreWellMade c.instance.ensures c.facts.ensures

pub returns-clause-valid : goal.returns-clause-valid
returns-clause-valid g c =
    subst (λ (xs : List Slot). AreValid c.args.engine.now.parts xs) c.solution.ensures.slots
    (subst (λ (q : Parts). AreValid q c.solution.result.now.slots) c.solution.ensures.parts c.facts-2.ensures)
