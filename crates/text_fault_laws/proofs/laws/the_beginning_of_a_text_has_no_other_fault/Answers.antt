use Rattle.text_fault_laws.proofs.FrontFaults.{no_other}
use Rattle.text_fault_laws.proofs.laws.the_beginning_of_a_text_has_no_other_fault.Goals as goal

pub returns : goal.returns
returns c = no_other
