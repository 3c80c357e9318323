use Rattle.std.proofs.Common.{sym, subst}
use Rattle.std.specs.Prelude.{vec_capacity}
use Rattle.khe_solution.specs.Backs.{LeadsBack}
use Rattle.khe_solution.specs.Timetables.{Timetable, AreRoomy, RecutsWithin}
use Rattle.khe_solution.proofs.EditLaws.{edit_room, undo_cuts}
use Rattle.khe_solution.proofs.solution.Solution.undo.Goals as goal

pub list_undo-requires-clause-room : goal.list_undo-requires-clause-room
list_undo-requires-clause-room g c =
    subst (λ s. AreRoomy s (vec_capacity c.self.inside.list)) (sym c.told.ensures)
    (edit_room _ _ _ c.self.invariant.0 c.facts.ensures c.self.invariant.1)

pub list_undo-requires-clause-cut : goal.list_undo-requires-clause-cut
list_undo-requires-clause-cut g c =
    subst (λ s. RecutsWithin s c.args.back) (sym c.told.ensures)
    (undo_cuts _ _ _ c.facts.ensures (subst (λ (q : Timetable). LeadsBack q.parts q.slots c.args.back)
    (sym c.self.view_is) c.requires.leads))
