-- Bytes lead to one thing alone, and each command makes one thing of it.
use Rattle.outcome_laws.proofs.OutcomeLaws.{one_status, one_there}
use Rattle.outcome_laws.proofs.laws.each_run_has_one_outcome.Goals as goal

pub returns-clause-one : goal.returns-clause-one
returns-clause-one c = one_there

pub returns-clause-status : goal.returns-clause-status
returns-clause-status c = one_status
