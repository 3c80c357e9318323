use Rattle.text_fault_laws.proofs.FirstRow.{least_first}
use Rattle.text_fault_laws.proofs.laws.the_least_row_is_the_first_fault.Goals as goal

pub returns : goal.returns
returns c = least_first
