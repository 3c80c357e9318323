-- Bytes that begin no reference and no comment stand for themselves.
use Rattle.std.proofs.Common.{◌≡◌, ◌∙◌, refl, sym, ap, ℕ, zero, suc, Bool, true, false, not, ◌&&◌, ◌||◌, ◌==◌, List, []}
use Rattle.std.proofs.Common.{◌∷◌, ◌++◌, nat_lt, if◌then◌else◌, lit<, encode_utf8_all}
use Rattle.std.specs.Prelude.{unwrap_or}
use Rattle.std.specs.List.{list_all}
use Rattle.std.specs.Str.{IsAscii}
use Rattle.std.proofs.lemmas.Bool.{and_parts, ltb-true}
use Rattle.std.proofs.lemmas.Str.{IsUtf8-from_ascii, encodes-chars}
use Rattle.khe_base.specs.Text.{text_of}
use Rattle.khe_base.proofs.TextLemmas.{text_of-IsUtf8}
use Rattle.xhstt_text.specs.Unescape.{unescaped}
use Rattle.xhstt_text.specs.UnescapeMachine.{is_plain, plain_after}
use Rattle.xhstt_text.specs.declared.unescaping.Part.TheVariants.{Plain, Reference, Less}

one_more : (x y : Bool) (b : ℕ) (bs : List ℕ) → (not x && not y) ≡ true → plain_after Plain [] bs ≡ bs
    → ((if x || y then [] else b ∷ []) ++ plain_after (if x then Reference else if y then Less else Plain) [] bs) ≡ b ∷ bs
one_more false false b bs h e = ap (λ xs. b ∷ xs) e
one_more false true b bs h e = cc
one_more true y b bs h e = cc

pub plain_after-plain : (bs : List ℕ) → list_all is_plain bs ≡ true → plain_after Plain [] bs ≡ bs
plain_after-plain [] h = refl
plain_after-plain (b ∷ bs) h =
    let parts = and_parts _ _ h in
    one_more (b == 38) (b == 60) b bs parts.0 (plain_after-plain bs parts.1)

ascii : (bs : List ℕ) → list_all (λ b. nat_lt b 128) bs ≡ true → IsAscii bs
ascii [] h i = lit< tt
ascii (b ∷ bs) h zero = ltb-true b 128 (and_parts _ _ h).0
ascii (b ∷ bs) h (suc i) = ascii bs (and_parts _ _ h).1 i

-- plain bytes of ASCII are what they stand for, in UTF-8
pub stands_for_itself : (bs : List ℕ) → list_all (λ b. nat_lt b 128) bs ≡ true → list_all is_plain bs ≡ true
    → bs ≡ encode_utf8_all (unescaped bs)
stands_for_itself bs a h =
    let u = IsUtf8-from_ascii bs (ascii bs a) in
    sym (encodes-chars bs u)
    ∙ ap encode_utf8_all (ap (λ t. unwrap_or t []) (text_of-IsUtf8 bs u)
    ∙ ap (λ xs. unwrap_or (text_of xs) []) (sym (plain_after-plain bs h)))
