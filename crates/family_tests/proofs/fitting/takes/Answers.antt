use Rattle.std.proofs.lemmas.Bool.{eqb-true}
use Rattle.family_tests.proofs.FitLaws.{take_by}
use Rattle.family_tests.proofs.fitting.takes.Goals as goal

pub returns : goal.returns
returns c = λ e. take_by c.args.inst.now c.args.told.now c.requires.told c.args.task c.args.resource
    c.in-Some-resource_there.given c.in-Some.field-0 c.span.result c.resource_there.result c.requires.there
    c.span.ensures c.in-Some.is c.resource_there.ensures c.in-Some-resource_there.is
    (eqb-true c.in-Some-resource_there.given.0 c.args.resource.0 e)
