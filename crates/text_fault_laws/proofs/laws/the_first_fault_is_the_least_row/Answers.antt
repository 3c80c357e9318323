use Rattle.text_fault_laws.proofs.FirstRow.{first_least}
use Rattle.text_fault_laws.proofs.laws.the_first_fault_is_the_least_row.Goals as goal

pub returns : goal.returns
returns c = first_least
