-- The laws of lists of changes.
use Rattle.khe_told.proofs.SlotLaws.{after_inverses, all_fit_inverses}
use Rattle.khe_told.proofs.WatcherLaws.{watchers_inverses}
use Rattle.khe_told.proofs.laws.changes_and_their_inverses.Goals as goal

pub returns-clause-fit : goal.returns-clause-fit
returns-clause-fit c = all_fit_inverses

pub returns-clause-back : goal.returns-clause-back
returns-clause-back c = after_inverses

pub returns-clause-watchers : goal.returns-clause-watchers
returns-clause-watchers c = watchers_inverses
