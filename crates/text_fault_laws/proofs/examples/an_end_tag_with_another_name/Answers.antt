use Rattle.std.proofs.Common.{codes, refl}
use Rattle.fault_tables.specs.declared.faults.TheConstants.{MISMATCHED_END}
use Rattle.text_fault_laws.proofs.AsciiTexts.{by_machine}
use Rattle.text_fault_laws.proofs.examples.an_end_tag_with_another_name.Goals as goal

pub returns : goal.returns
returns c = by_machine (codes "<a></b>") MISMATCHED_END 3 refl refl
