-- The instance that is taken is that of the solution.
use Rattle.std.proofs.Common.{sym, subst, ◌∙◌}
use Rattle.std.proofs.lemmas.Option.{same_Some, slice_get_within}
use Rattle.archive_reading.specs.Starting.{start_of}
use Rattle.khe_instance.specs.States.{IsValid}
use Rattle.khe_session.specs.Openings.{HasStarted}
use Rattle.khe_session.proofs.OpeningLaws.{begun_on, stopped_on}
use Rattle.khe_session.proofs.opening.begin_on.Goals as goal

pub instance_of-instance-requires : goal.instance_of-instance-requires
instance_of-instance-requires g c =
    let b = c.in-Ok.ensures.begun in
    slice_get_within c.args.read.resolved.instances c.in-Ok.instance b.0 b.1

pub start_on-requires-clause-valid : goal.start_on-requires-clause-valid
start_on-requires-clause-valid g c =
    let b = c.in-Ok.ensures.begun in
    subst (λ p. IsValid p c.in-Ok.plain)
    (same_Some b.0 c.instance_of-instance.result (sym b.1 ∙ c.instance_of-instance.ensures)) b.2

pub returns-in-Ok-start_on-clause-begun : goal.returns-in-Ok-start_on-clause-begun
returns-in-Ok-start_on-clause-begun g c =
    let b = c.in-Ok.ensures.begun in
    let a = c.args.read.archive in
    let same = same_Some b.0 c.instance_of-instance.result (sym b.1 ∙ c.instance_of-instance.ensures) in
    begun_on a c.args.read.resolved c.args.solution b.0 c.in-Ok.plain c.in-Ok-start_on.session b.3
    (subst (λ p. HasStarted a c.args.solution p c.in-Ok.plain c.in-Ok-start_on.session) (sym same)
    c.in-Ok-start_on.ensures)

pub returns-clause-barred : goal.returns-clause-barred
returns-clause-barred g c =
    stopped_on (start_of c.args.read.archive c.args.read.resolved c.args.solution) c.in-Err.unread c.unopened.result
    c.in-Err.ensures.barred c.unopened.ensures
