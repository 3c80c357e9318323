use Rattle.family_tests.proofs.FitLaws.{drop_by}
use Rattle.family_tests.proofs.fitting.drops.Goals as goal

pub returns-then-lasts-duration : goal.returns-then-lasts-duration
returns-then-lasts-duration c = λ e. drop_by c.args.inst.now c.args.told.now c.requires.told c.args.meet c.args.duration
    c.in-Some.lasts c.span.result c.unplaced.result c.given.result.now c.requires.there c.span.ensures
    c.unplaced.ensures c.in-Some.is c.if-lasts-duration.true c.given.ensures (c.is_bare.ensures e)
