use Rattle.khe_instance.proofs.WatchedLaws.{watches_are}
use Rattle.khe_instance.proofs.laws.watches_are_sizes.Goals as goal

pub returns : goal.returns
returns c = watches_are
