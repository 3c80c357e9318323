use Rattle.std.proofs.Common.{[], codes, refl}
use Rattle.std.specs.List.{repeat}
use Rattle.fault_tables.specs.declared.faults.TheConstants.{BAD_MARKUP}
use Rattle.text_fault_laws.proofs.AsciiTexts.{by_machine}
use Rattle.text_fault_laws.proofs.examples.texts_with_bad_markup.Goals as goal

pub returns-clause-nothing : goal.returns-clause-nothing
returns-clause-nothing c = by_machine [] BAD_MARKUP 0 refl refl

pub returns-clause-start : goal.returns-clause-start
returns-clause-start c = by_machine (codes "<a") BAD_MARKUP 2 refl refl

pub returns-clause-twice : goal.returns-clause-twice
returns-clause-twice c = by_machine (codes "<a b=\"1\" b=\"2\"/>") BAD_MARKUP 9 refl refl

pub returns-clause-inside : goal.returns-clause-inside
returns-clause-inside c = by_machine (repeat 32 (codes "<a>")) BAD_MARKUP 96 refl refl
