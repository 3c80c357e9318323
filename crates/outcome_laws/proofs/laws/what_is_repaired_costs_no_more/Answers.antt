-- By the law on the bytes.
use Rattle.khe_app.proofs.TextLaws.{repairs}
use Rattle.outcome_laws.proofs.laws.what_is_repaired_costs_no_more.Goals as goal

pub returns : goal.returns
returns c = repairs
