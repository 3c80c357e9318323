use Rattle.std.proofs.Common.{◌≡◌, ◌∙◌, ap, sym, subst}
use Rattle.khe_solution.specs.Editing.{edited}
use Rattle.khe_solution.specs.Backs.{back_of, LeadsBack}
use Rattle.khe_solution.specs.Timetables.{Timetable}
use Rattle.khe_told.specs.Valid.{AreValid}
use Rattle.khe_solution.proofs.EditLaws.{back_leads}
use Rattle.khe_solution.proofs.solution.Solution.back.Goals as goal

pub returns-clause-leads : goal.returns-clause-leads
returns-clause-leads c =
    let p = c.args.self.now.parts in
    let s = c.args.self.now.slots in
    let e = c.args.edit.now in
    let v : AreValid p s = subst (λ (q : Timetable). AreValid q.parts q.slots) c.self.view_is c.self.invariant.0 in
    let known : c.back_of.result ≡ back_of s e = c.back_of.ensures
    ∙ ap (λ (q : Timetable). back_of q.slots e) c.self.view_is in
    subst (LeadsBack p (edited s e)) (sym known) (back_leads p s e v c.requires.ours c.requires.accepted)
