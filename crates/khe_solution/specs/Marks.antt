-- Rows of bits with marks: a second row, with a bit for each word of the first.
use Rattle.std.specs.Prelude.{ℕ, ◌≡◌, ◌/◌, true, List}
use Rattle.khe_base.specs.Bits.{is_set}

-- the word of each set bit is marked; a word without one may be marked too
abbrev pub AreMarked : List ℕ → List ℕ → Type 0
AreMarked words marks = (m : ℕ) → is_set words m ≡ true → is_set marks (m / 64) ≡ true
