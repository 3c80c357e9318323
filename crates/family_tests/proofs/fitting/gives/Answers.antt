use Rattle.family_tests.proofs.FitLaws.{give_by}
use Rattle.family_tests.proofs.fitting.gives.Goals as goal

pub returns-then-is_open : goal.returns-then-is_open
returns-then-is_open c = λ e. give_by c.args.inst.now c.args.told.now c.requires.told c.args.task c.args.resource
    c.in-Some.field-0 c.span.result c.given_there.result c.is_open.result c.requires.there c.span.ensures c.in-Some.is
    c.given_there.ensures c.is_open.ensures c.if-is_open.true (c.is_typed.ensures e)
