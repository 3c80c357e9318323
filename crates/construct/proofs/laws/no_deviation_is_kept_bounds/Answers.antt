-- By the definition of Split Events.
use Rattle.construct.proofs.SplitLaws.{split_is_kept}
use Rattle.construct.proofs.laws.no_deviation_is_kept_bounds.Goals as goal

pub returns : goal.returns
returns c = split_is_kept
