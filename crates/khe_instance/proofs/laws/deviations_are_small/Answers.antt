use Rattle.khe_instance.proofs.DeviationBounds.{deviation_small}
use Rattle.khe_instance.proofs.laws.deviations_are_small.Goals as goal

pub returns : goal.returns
returns c = deviation_small
