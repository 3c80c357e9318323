use Rattle.std.proofs.Common.{codes, refl}
use Rattle.std.specs.List.{repeat}
use Rattle.fault_tables.specs.declared.faults.TheConstants.{TOO_DEEP}
use Rattle.text_fault_laws.proofs.AsciiTexts.{by_machine}
use Rattle.text_fault_laws.proofs.examples.an_element_inside_of_thirty_two.Goals as goal

pub returns : goal.returns
returns c = by_machine (repeat 33 (codes "<a>")) TOO_DEEP 96 refl refl
