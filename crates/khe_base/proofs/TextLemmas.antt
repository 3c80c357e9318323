-- Texts as characters and as bytes.
use Rattle.std.proofs.Common.{◌≡◌, ◌∙◌, sym, ap, ℕ, true, List, [], ◌∷◌, encode_utf8_all, Some, None, if◌then◌else◌}
use Rattle.std.proofs.Common.{suc, zero, lit<}
use Rattle.std.specs.Str.{bytes_eq, IsUtf8, IsAscii}
use Rattle.std.proofs.lemmas.Bool.{and_parts, ltb-true, false_from_ne_true}
use Rattle.std.proofs.lemmas.Bool.Decides.{same_from_decides, Decides-like}
use Rattle.std.proofs.lemmas.Slice.Eq.{bytes_eq-Decides}
use Rattle.std.proofs.lemmas.Str.{encodes-chars, chars-IsAscii, is_utf8-from_IsUtf8, IsUtf8-from_is_utf8}
use Rattle.khe_base.specs.Text.{characters, text_of, is_ascii}

-- two texts have the same characters exactly where they have the same bytes
pub bytes_eq-characters : (xs ys : List ℕ) → IsUtf8 xs → IsUtf8 ys
    → bytes_eq (characters xs) (characters ys) ≡ bytes_eq xs ys
bytes_eq-characters xs ys u v =
    same_from_decides _ _
    (Decides-like _ (λ e. sym (encodes-chars xs u) ∙ ap encode_utf8_all e ∙ encodes-chars ys v) (λ e. ap characters e)
    (bytes_eq-Decides (characters xs) (characters ys)))
    (bytes_eq-Decides xs ys)

-- the test says that each byte is below 128
IsAscii-is_ascii : (bs : List ℕ) → is_ascii bs ≡ true → IsAscii bs
IsAscii-is_ascii [] h i = lit< tt
IsAscii-is_ascii (b ∷ bs) h zero = ltb-true b 128 (and_parts _ _ h).0
IsAscii-is_ascii (b ∷ bs) h (suc i) = IsAscii-is_ascii bs (and_parts _ _ h).1 i

-- the characters of a text of ASCII are its bytes
pub characters-is_ascii : (bs : List ℕ) → is_ascii bs ≡ true → characters bs ≡ bs
characters-is_ascii bs h = chars-IsAscii bs (IsAscii-is_ascii bs h)

-- bytes that are UTF-8 are a text
pub text_of-IsUtf8 : (bs : List ℕ) → IsUtf8 bs → Some (characters bs) ≡ text_of bs
text_of-IsUtf8 bs u = sym (ap (λ b. if b then Some (characters bs) else None) (is_utf8-from_IsUtf8 bs u))

-- bytes that are not UTF-8 are none
pub text_of-not_utf8 : (bs : List ℕ) → (IsUtf8 bs → ⊥) → None ≡ text_of bs
text_of-not_utf8 bs h =
    sym (ap (λ b. if b then Some (characters bs) else None) (false_from_ne_true _ (λ e. h (IsUtf8-from_is_utf8 bs e))))

-- the order of the two does not matter
pub bytes_eq-turned : (xs ys : List ℕ) → bytes_eq xs ys ≡ bytes_eq ys xs
bytes_eq-turned xs ys = same_from_decides _ _
    (Decides-like _ (λ e. sym e) (λ e. sym e) (bytes_eq-Decides xs ys)) (bytes_eq-Decides ys xs)
