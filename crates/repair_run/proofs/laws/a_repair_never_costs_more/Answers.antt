-- By the laws of repair.
use Rattle.repair_run.proofs.MendedLaws.{no_dearer, settled}
use Rattle.repair_run.proofs.laws.a_repair_never_costs_more.Goals as goal

pub returns-clause-no_dearer : goal.returns-clause-no_dearer
returns-clause-no_dearer c = no_dearer

pub returns-clause-settled : goal.returns-clause-settled
returns-clause-settled c = settled
