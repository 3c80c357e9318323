use Rattle.text_fault_laws.proofs.OneTree.{one_table}
use Rattle.text_fault_laws.proofs.laws.one_table_is_spelled.Goals as goal

pub returns : goal.returns
returns c = one_table
