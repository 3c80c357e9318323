-- The start fits what was told so far, and then the slot is told.
use Rattle.std.proofs.Common.{◌∙◌, sym, subst, ap}
use Rattle.khe_told.specs.Changes.{after}
use Rattle.khe_told.specs.Fits.{AreTold, Fits}
use Rattle.khe_told.specs.declared.changes.Change.TheVariants as change
use Rattle.khe_engine.proofs.OpeningLaws.{place_comes, place_fits, start_comes}
use Rattle.khe_engine.proofs.telling.tell_start.Goals as goal

pub returns-in_default-clause-told : goal.returns-in_default-clause-told
returns-in_default-clause-told g c = c.requires.before
    ∙ start_comes c.args.number.0 c.args.solution.now.slots c.args.meet c.requires.meet c.in_default.is

pub note-requires-clause-fits : goal.note-requires-clause-fits
note-requires-clause-fits g c =
    subst (λ w. Fits c.args.inst.now w (change.Place c.args.number c.in-Some.start)) (sym c.requires.before)
    (place_fits c.args.inst.now c.args.solution.now.slots c.args.number c.args.meet c.in-Some.start
    (subst (λ p. AreTold p c.args.solution.now.slots) c.requires.parts c.facts.ensures.told) c.requires.there
    c.requires.meet c.in-Some.is)

pub returns-clause-told : goal.returns-clause-told
returns-clause-told g c =
    c.note.ensures.told ∙ ap (λ w. after w (change.Place c.args.number c.in-Some.start)) c.requires.before
    ∙ place_comes c.args.solution.now.slots c.args.number c.args.meet c.in-Some.start c.requires.there c.requires.meet
    c.in-Some.is
