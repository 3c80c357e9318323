-- By the law on the demands that compete.
use Rattle.khe_app.proofs.DeficitLaws.{outnumbered}
use Rattle.outcome_laws.proofs.laws.a_deficit_names_demands_that_outnumber.Goals as goal

pub returns : goal.returns
returns c = outnumbered
