use Rattle.std.proofs.lemmas.Bool.{eqb-true}
use Rattle.family_tests.proofs.FitLaws.{lift_by}
use Rattle.family_tests.proofs.fitting.lifts.Goals as goal

pub returns : goal.returns
returns c = λ e. lift_by c.args.inst.now c.args.told.now c.requires.told c.args.meet c.args.start c.in-Some.starts
    c.span.result c.start_of.result c.requires.there c.span.ensures c.start_of.ensures c.in-Some.is
    (eqb-true c.in-Some.starts.0 c.args.start.0 e)
