-- The change fits what was told so far, and then the place is told.
use Rattle.std.proofs.Common.{◌∙◌, sym, subst, ap}
use Rattle.khe_told.specs.Changes.{after}
use Rattle.khe_told.specs.Fits.{AreTold, Fits}
use Rattle.khe_told.specs.declared.changes.Change.TheVariants as change
use Rattle.khe_engine.proofs.OpeningLaws.{give_comes, give_fits, given_comes, live_span}
use Rattle.khe_engine.proofs.telling.tell_task.Goals as goal

pub returns-in_default-clause-told : goal.returns-in_default-clause-told
returns-in_default-clause-told g c = c.requires.before
    ∙ given_comes c.args.task.meet.0 c.args.task.place c.args.solution.now.slots
    (sym c.resource.ensures ∙ c.in_default.is)

pub note-requires-clause-fits : goal.note-requires-clause-fits
note-requires-clause-fits g c =
    let s = c.args.solution.now.slots in
    let y = live_span s c.args.task.meet.0 c.requires.live in
    subst (λ w. Fits c.args.inst.now w (change.Give c.args.task c.in-Some.resource)) (sym c.requires.before)
    (give_fits c.args.inst.now s c.args.task c.in-Some.resource y.0
    (subst (λ p. AreTold p s) c.requires.parts c.facts.ensures.told) c.requires.there c.requires.place y.1
    (sym c.resource.ensures ∙ c.in-Some.is))

pub returns-clause-told : goal.returns-clause-told
returns-clause-told g c =
    c.note.ensures.told ∙ ap (λ w. after w (change.Give c.args.task c.in-Some.resource)) c.requires.before
    ∙ give_comes c.args.solution.now.slots c.args.task c.in-Some.resource c.requires.there c.requires.place
    (sym c.resource.ensures ∙ c.in-Some.is)
