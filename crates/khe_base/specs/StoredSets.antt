-- A set of numbers as it is stored: a row of bits, 64 in each word.
use Rattle.std.specs.Prelude.{ℕ, ◌≡◌, ◌+◌, ◌≤◌, List, Bool, false, length, map}
use Rattle.std.specs.List.{filter, range_with_len}
use Rattle.khe_base.specs.Bits.{has_bit, is_set, words_for}
use Rattle.khe_base.specs.IdSet.{IsCounted}

-- the set of the numbers below the size whose bits are set
abbrev pub set_of_bits : List ℕ → ℕ → List Bool
set_of_bits words size = map (λ n. is_set words n) (range_with_len 0 size)

-- what is kept of a set: enough words for the size, no bit set at or beyond it, and the number of members
pub record IsStored (words : List ℕ) (size count : ℕ) : Type 0 where
  pub room : length words ≡ words_for size
  pub beyond : (n : ℕ) → size ≤ n → is_set words n ≡ false
  pub counted : IsCounted (set_of_bits words size) count

-- the numbers whose bits are set among the lowest `bits` bits of a word, where the lowest bit is that of the
-- number `first`
unfoldable pub members_in : ℕ → ℕ → ℕ → List ℕ
members_in word first bits = map (λ i. first + i) (filter (has_bit word) (range_with_len 0 bits))

-- the numbers below n whose bits are set in a row of words
unfoldable pub members_below : List ℕ → ℕ → List ℕ
members_below words n = filter (is_set words) (range_with_len 0 n)
