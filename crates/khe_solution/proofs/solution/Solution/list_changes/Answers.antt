use Rattle.std.proofs.Common.{sym, subst}
use Rattle.std.specs.Prelude.{vec_capacity}
use Rattle.khe_solution.specs.Timetables.{Timetable, HasRoom, AreRoomy}
use Rattle.khe_solution.proofs.EditLaws.{edit_room}
use Rattle.khe_solution.proofs.solution.Solution.list_changes.Goals as goal

pub list_edit-requires-clause-room : goal.list_edit-requires-clause-room
list_edit-requires-clause-room c =
    let room = vec_capacity c.args.list.now in
    subst (λ s. AreRoomy s room) (sym c.told.ensures)
    (edit_room _ _ room c.self.invariant.0 c.facts.ensures
    (subst (λ (q : Timetable). HasRoom q.parts room) (sym c.self.view_is) c.requires.room))
