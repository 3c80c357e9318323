use Rattle.time_match.proofs.FourLaws.{four_hard, four_soft}
use Rattle.time_match.proofs.laws.alike_tasks_exchange_resources.Goals as goal

pub returns-clause-hard : goal.returns-clause-hard
returns-clause-hard c = four_hard

pub returns-clause-soft : goal.returns-clause-soft
returns-clause-soft c = four_soft
