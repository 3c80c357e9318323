-- Rows of bits with a summary: a second row with a bit for each word of the first.
use Rattle.std.specs.Prelude.{ℕ, ◌≡◌, ◌<◌, ◌≤◌, ◌/◌, true, false, List}
use Rattle.khe_base.specs.Bits.{is_set}

-- the word of each set bit has its bit in the summary; the bit of a word without one may stand too
abbrev pub AreSummed : List ℕ → List ℕ → Type 0
AreSummed words summary = (m : ℕ) → is_set words m ≡ true → is_set summary (m / 64) ≡ true

-- no bit of these numbers is set
abbrev pub AreClear : List ℕ → ℕ → ℕ → Type 0
AreClear words from to = (m : ℕ) → from ≤ m → m < to → is_set words m ≡ false

-- the first set bit from a number on
abbrev pub IsFirst : List ℕ → ℕ → ℕ → Type 0
IsFirst words from r = (from ≤ r) × (is_set words r ≡ true) × AreClear words from r
