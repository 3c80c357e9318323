-- By the law on watchers.
use Rattle.engine_laws.proofs.ServedLaws.{watchers_served}
use Rattle.engine_laws.proofs.laws.each_watcher_is_served.Goals as goal

pub returns-clause-watchers : goal.returns-clause-watchers
returns-clause-watchers c = watchers_served
