-- Bytes spell no character exactly where there are none.
use Rattle.std.proofs.Common.{ℕ, ◌<◌, List, length, sym, subst, ap, ◌∙◌, arith, encode_utf8_all}
use Rattle.std.proofs.lemmas.Bool.{eqb-true}
use Rattle.std.proofs.lemmas.Bool.Decides.{nat_tests}
use Rattle.std.proofs.lemmas.Str.{encodes-chars}
use Rattle.khe_base.specs.Text.{characters}
use Rattle.xhstt_writer.proofs.Runs.{empty_text, some_text}
use Rattle.xhstt_writer.proofs.parts.is_blank.Goals as goal

pub returns-clause-yes : goal.returns-clause-yes
returns-clause-yes c h = empty_text (characters c.args.text.now)
    (ap length (encodes-chars c.args.text.now c.utf8.text) ∙ eqb-true _ 0 (sym c.is_empty.ensures ∙ h))

pub returns-clause-no : goal.returns-clause-no
returns-clause-no c h =
    let bytes = c.args.text.now in
    let some : 0 < length (encode_utf8_all (characters bytes)) = subst (λ (x : List ℕ). 0 < length x)
    (sym (encodes-chars bytes c.utf8.text)) (grind (arith, nat_tests, c.is_empty.ensures, h)) in
    some_text (characters bytes) some
