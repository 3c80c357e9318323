-- The meet comes first, and where there is none nothing is to be told.
use Rattle.std.proofs.Common.{◌∙◌, sym, subst, ap}
use Rattle.khe_told.specs.Changes.{after}
use Rattle.khe_told.specs.Fits.{AreTold, Fits}
use Rattle.khe_told.specs.declared.changes.Change.TheVariants as change
use Rattle.khe_engine.proofs.OpeningLaws.{add_comes, add_fits, told_free}
use Rattle.khe_engine.proofs.telling.tell_slot.Goals as goal

pub returns-in_default-clause-told : goal.returns-in_default-clause-told
returns-in_default-clause-told g c =
    c.requires.before ∙ told_free c.args.solution.now.parts c.args.number.0 c.args.solution.now.slots
    c.facts.ensures.told c.requires.there (sym c.meet.ensures ∙ c.in_default.is)

pub note-requires-clause-fits : goal.note-requires-clause-fits
note-requires-clause-fits g c =
    subst (λ w. Fits c.args.inst.now w (change.Add c.args.number c.in-Some.meet.duration)) (sym c.requires.before)
    (add_fits c.args.inst.now c.args.solution.now.slots c.args.number c.in-Some.meet
    (subst (λ p. AreTold p c.args.solution.now.slots) c.requires.parts c.facts.ensures.told) c.requires.there
    (sym c.meet.ensures ∙ c.in-Some.is))

pub tell_tasks-requires-clause-before : goal.tell_tasks-requires-clause-before
tell_tasks-requires-clause-before g c =
    c.note.ensures.told ∙ ap (λ w. after w (change.Add c.args.number c.in-Some.meet.duration)) c.requires.before
    ∙ add_comes c.args.solution.now.slots c.args.number c.in-Some.meet (sym c.meet.ensures ∙ c.in-Some.is)
