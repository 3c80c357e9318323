use Rattle.std.proofs.Common.{codes, refl}
use Rattle.fault_tables.specs.declared.faults.TheConstants.{UNSUPPORTED}
use Rattle.text_fault_laws.proofs.AsciiTexts.{by_machine}
use Rattle.text_fault_laws.proofs.examples.texts_with_other_markup.Goals as goal

pub returns-clause-document : goal.returns-clause-document
returns-clause-document c = by_machine (codes "<!DOCTYPE a><a/>") UNSUPPORTED 0 refl refl

pub returns-clause-colon : goal.returns-clause-colon
returns-clause-colon c = by_machine (codes "<a:b/>") UNSUPPORTED 2 refl refl

pub returns-clause-instruction : goal.returns-clause-instruction
returns-clause-instruction c = by_machine (codes "<?xml version=\"1.0\"?><a/><?x?>") UNSUPPORTED 25 refl refl
