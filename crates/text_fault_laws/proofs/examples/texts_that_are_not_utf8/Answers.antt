use Rattle.std.proofs.Common.{◌≡◌, [], ◌∷◌, ◌++◌, codes, refl, false, arith}
use Rattle.std.proofs.lemmas.Str.{IsUtf8-from_ascii}
use Rattle.std.proofs.lemmas.Str.Ascii.{IsAscii-nil}
use Rattle.std.specs.Str.{is_utf8, chars}
use Rattle.text_fault_laws.proofs.AsciiTexts.{ascii}
use Rattle.text_fault_laws.proofs.BrokenTexts.{broken_last}
use Rattle.text_fault_laws.proofs.examples.texts_that_are_not_utf8.Goals as goal

alone : is_utf8 (0xFF ∷ []) ≡ false
unfolding is_utf8 chars
alone = refl

later : is_utf8 (codes "<a>&x" ++ 0xFF ∷ []) ≡ false
unfolding is_utf8 chars lib.Utf8.encode
later = refl

pub returns-clause-alone : goal.returns-clause-alone
returns-clause-alone c = broken_last (0xFF ∷ []) 0 refl (IsUtf8-from_ascii [] IsAscii-nil) alone

pub returns-clause-later : goal.returns-clause-later
returns-clause-later c = broken_last (codes "<a>&x" ++ 0xFF ∷ []) 5 refl
    (IsUtf8-from_ascii (codes "<a>&x") (ascii (codes "<a>&x") refl)) later
