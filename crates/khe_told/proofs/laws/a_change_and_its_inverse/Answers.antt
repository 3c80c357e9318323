-- The laws of one change.
use Rattle.khe_told.proofs.SlotLaws.{after_back, fits_back}
use Rattle.khe_told.proofs.WatcherLaws.{watchers_back}
use Rattle.khe_told.proofs.laws.a_change_and_its_inverse.Goals as goal

pub returns-clause-fits : goal.returns-clause-fits
returns-clause-fits c = fits_back

pub returns-clause-back : goal.returns-clause-back
returns-clause-back c = after_back

pub returns-clause-watchers : goal.returns-clause-watchers
returns-clause-watchers c = watchers_back
