-- The line is carried out by the engine that is woken for it.
use Rattle.std.proofs.Common.{◌∙◌, subst, sym}
use Rattle.khe_engine.specs.Resting.{FitsIn}
use Rattle.talk_run.specs.Sent.{IsSame}
use Rattle.khe_session.proofs.LineLaws.{lined_as}
use Rattle.khe_session.proofs.WakingLaws.{woken_parts}
use Rattle.khe_session.proofs.waking.kept_after.Goals as goal

pub returns-in-Ok-clause-fits : goal.returns-in-Ok-clause-fits
returns-in-Ok-clause-fits g c =
    subst (λ q. FitsIn g.F.Family.IsOf g.F.Family.told q c.kept_of-left.result.rest)
    (c.in-Ok.ensures.parts ∙ woken_parts c.args.inst.now c.args.kept c.wake-engine.result c.wake-engine.ensures)
    c.kept_of-left.ensures.fits

pub returns-in-Ok-clause-lined : goal.returns-in-Ok-clause-lined
returns-in-Ok-clause-lined g c = λ lines next.
    lined_as c.args.inst.now c.args.solution lines c.args.number c.args.kept c.kept_of-left.result c.args.line.now
    c.answer_into.new.answer.items c.wake-engine.result c.answer_into.new.speaker.engine next c.wake-engine.ensures
    c.in-Ok.ensures.parts c.kept_of-left.ensures.same
    (subst (λ a. IsSame a c.args.kept.archive c.args.solution) (sym c.kept_of-left.ensures.archive)
    c.in-Ok.ensures.archive) c.in-Ok.ensures.played c.in-Ok.ensures.answered
