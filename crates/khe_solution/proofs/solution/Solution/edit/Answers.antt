use Rattle.std.proofs.Common.{sym, subst}
use Rattle.std.specs.Prelude.{vec_capacity}
use Rattle.khe_solution.specs.Timetables.{AreRoomy}
use Rattle.khe_solution.proofs.EditLaws.{edit_room}
use Rattle.khe_solution.proofs.solution.Solution.edit.Goals as goal

pub list_edit-requires-clause-room : goal.list_edit-requires-clause-room
list_edit-requires-clause-room g c =
    subst (λ s. AreRoomy s (vec_capacity c.self.inside.list)) (sym c.told.ensures)
    (edit_room _ _ _ c.self.invariant.0 c.facts.ensures c.self.invariant.1)
