use Rattle.text_fault_laws.proofs.OneForest.{one_forest}
use Rattle.text_fault_laws.proofs.laws.one_forest_is_spelled.Goals as goal

pub returns : goal.returns
returns c = one_forest
