use Rattle.std.proofs.Common.{codes, refl}
use Rattle.fault_tables.specs.declared.faults.TheConstants.{BAD_REFERENCE}
use Rattle.text_fault_laws.proofs.AsciiTexts.{by_machine}
use Rattle.text_fault_laws.proofs.examples.texts_with_bad_references.Goals as goal

pub returns-clause-name : goal.returns-clause-name
returns-clause-name c = by_machine (codes "<a>&x;</a>") BAD_REFERENCE 3 refl refl

pub returns-clause-number : goal.returns-clause-number
returns-clause-number c = by_machine (codes "<a>&#0;</a>") BAD_REFERENCE 3 refl refl
