-- What may stand in text for one character, and is more than one byte to the reader: a reference, or
-- a character from U+F000 to U+FFFF, of which the last two are refused.
use Rattle.std.specs.Prelude.{ℕ, ◌≡◌, ◌+◌, ◌*◌, ◌-◌, Bool, true, not, ◌&&◌, ◌||◌, ◌==◌, nat_le, if◌then◌else◌, List, []}
use Rattle.std.specs.Prelude.{◌∷◌, ◌++◌}
use Rattle.xhstt_text.specs.Bytes.{AllAre}

-- the five entities that have a name
pub data Entity : Type 0 where
  less : Entity
  greater : Entity
  ampersand : Entity
  apostrophe : Entity
  quotation : Entity

-- `lt`, `gt`, `amp`, `apos` and `quot`
abbrev pub entity_name : Entity → List ℕ
entity_name less = 108 ∷ 116 ∷ []
entity_name greater = 103 ∷ 116 ∷ []
entity_name ampersand = 97 ∷ 109 ∷ 112 ∷ []
entity_name apostrophe = 97 ∷ 112 ∷ 111 ∷ 115 ∷ []
entity_name quotation = 113 ∷ 117 ∷ 111 ∷ 116 ∷ []

-- a character by its second and third byte, an entity, or a number in decimal or hexadecimal digits
pub data Piece : Type 0 where
  wide : ℕ → ℕ → Piece
  named : Entity → Piece
  decimal : List ℕ → Piece
  hexadecimal : List ℕ → Piece

-- how it is spelled
abbrev pub piece_text : Piece → List ℕ
piece_text (wide b c) = 239 ∷ b ∷ c ∷ []
piece_text (named e) = 38 ∷ (entity_name e ++ 59 ∷ [])
piece_text (decimal ds) = 38 ∷ 35 ∷ (ds ++ 59 ∷ [])
piece_text (hexadecimal ds) = 38 ∷ 35 ∷ 120 ∷ (ds ++ 59 ∷ [])

-- a decimal digit
abbrev pub is_decimal : ℕ → Bool
is_decimal b = nat_le 48 b && nat_le b 57

-- a hexadecimal digit
abbrev pub is_hexadecimal : ℕ → Bool
is_hexadecimal b = is_decimal b || (nat_le 65 b && nat_le b 70) || (nat_le 97 b && nat_le b 102)

-- what a digit stands for
abbrev pub digit : ℕ → ℕ
digit b = if nat_le b 57 then b - 48 else (if nat_le b 70 then b - 55 else b - 87)

-- the number of further digits, after digits that stand for this number
abbrev pub number_from : ℕ → ℕ → List ℕ → ℕ
number_from base n [] = n
number_from base n (d ∷ ds) = number_from base (n * base + digit d) ds

-- at least one digit
abbrev pub AreDigits : (ℕ → Bool) → List ℕ → Type 0
AreDigits test [] = ⊥
AreDigits test (d ∷ ds) = (test d ≡ true) × AllAre test ds

-- a character that a text may have
abbrev pub is_character : ℕ → Bool
is_character n = n == 9 || n == 10 || n == 13 || (nat_le 32 n && nat_le n 55295) || (nat_le 57344 n && nat_le n 65533)
    || (nat_le 65536 n && nat_le n 1114111)

-- the last byte of such a character, where the second is the greatest or not
abbrev pub is_last : Bool → ℕ → Bool
is_last greatest b = nat_le 128 b && not (greatest && nat_le 190 b)

-- it is in form
abbrev pub IsPiece : Piece → Type 0
IsPiece (wide b c) = (nat_le 128 b ≡ true) × (is_last (b == 191) c ≡ true)
IsPiece (named e) = Unit {0}
IsPiece (decimal ds) = AreDigits is_decimal ds × (is_character (number_from 10 0 ds) ≡ true)
IsPiece (hexadecimal ds) = AreDigits is_hexadecimal ds × (is_character (number_from 16 0 ds) ≡ true)
