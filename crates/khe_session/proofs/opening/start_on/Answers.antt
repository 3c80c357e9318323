-- The engine that was opened rests on the instance that it was opened on.
use Rattle.std.proofs.Common.{subst}
use Rattle.khe_engine.specs.Resting.{FitsIn}
use Rattle.khe_session.proofs.OpeningLaws.{started}
use Rattle.khe_session.proofs.opening.start_on.Goals as goal

pub invariant_of-result : goal.invariant_of-result
invariant_of-result g c = (
  c.requires.serves,
  subst (λ p. FitsIn g.F.Family.IsOf g.F.Family.told p c.rest-rest.result) c.in_ok-engine.ensures.parts
      c.rest-rest.ensures.fits,
)

pub returns : goal.returns
returns g c =
    started c.args.archive c.args.solution c.args.instance c.args.plain.now c.rest-rest.result c.in_ok-engine.engine
    c.in_ok-engine.ensures.parts c.rest-rest.ensures.same c.in_ok-engine.ensures.state c.in_ok-engine.ensures.saved
