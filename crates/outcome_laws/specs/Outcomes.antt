-- Outcomes are one where their statuses and the bytes of their texts are the same. All words have one outcome but
-- those of `match`, which leave a choice.
use Rattle.std.specs.Prelude.{ℕ, ◌≡◌, Bool, true, false, Option, Some, List, encode_utf8_all}
use Rattle.khe_app.specs.Outcome.{IsOutcome}
use Rattle.command_words.specs.Words.{Asked, asked, is_read, matching}

-- what stands under each name
abbrev pub Shelf : Type 0
Shelf = List ℕ → Option (List ℕ)

-- two outcomes have the same status and the same bytes
pub record AreOne (first second : ℕ) (text more : List ℕ) : Type 0 where
  pub status : first ≡ second
  pub bytes : encode_utf8_all text ≡ encode_utf8_all more

-- words have an outcome with this shelf, and no other
pub record HasOneOutcome (words : List (List ℕ)) (under : Shelf) : Type 0 where
  pub status : ℕ
  pub text : List ℕ
  pub is : IsOutcome words under status text
  pub only : (other : ℕ) (more : List ℕ) → IsOutcome words under other more → AreOne status other text more

-- a matching may be any that its prices certify, and so its text is left open
abbrev pub leaves_choice : Option Asked → Bool
leaves_choice (Some (matching archive number time rtype)) = true
leaves_choice _ = false

abbrev pub EachRunHasOneOutcome : Type 0
EachRunHasOneOutcome =
    (words : List (List ℕ)) (under : Shelf) → leaves_choice (asked words) ≡ false → HasOneOutcome words under

-- but for its status
abbrev pub NoRunHasTwoStatuses : Type 0
NoRunHasTwoStatuses =
    (words : List (List ℕ)) (under : Shelf) (status other : ℕ) (text more : List ℕ)
    → IsOutcome words under status text → IsOutcome words under other more → status ≡ other

-- where nothing is read, the outcome is that by any other shelf
abbrev pub OutcomesDoNotHang : Type 0
OutcomesDoNotHang =
    (words : List (List ℕ)) (under other : Shelf) (status : ℕ) (text : List ℕ) → is_read (asked words) ≡ false
    → IsOutcome words under status text → IsOutcome words other status text

-- and nothing is missing
abbrev pub MakingReadsNothing : Type 0
MakingReadsNothing =
    (words : List (List ℕ)) (under : Shelf) (text : List ℕ) → is_read (asked words) ≡ false
    → IsOutcome words under 4 text → ⊥
