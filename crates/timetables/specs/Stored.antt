-- What stands in memory for a row of counts, and for a set of times.
use Rattle.std.specs.Prelude.{ℕ, ◌*◌, ◌^◌, ◌<◌, ◌≤◌, ◌≡◌, List, false, length}
use Rattle.khe_base.specs.Bits.{is_set, words_for}
use Rattle.timetables.specs.Counts.{is_busy}

-- the bits of the words are set where the counts are above 0, and nowhere else
pub record HasBusyBits (counts : List ℕ) (words : List ℕ) : Type 0 where
  pub room : length words ≡ words_for (length counts)
  pub bits : (t : ℕ) → is_set words t ≡ is_busy counts t

-- bits are set only below the size, and only in the words from the first one up to the end
pub record IsWithin (words : List ℕ) (first end size : ℕ) : Type 0 where
  pub room : length words ≡ words_for size
  pub small : size < 2 ^ 32
  pub within : end ≤ length words
  pub before : (t : ℕ) → t < 64 * first → is_set words t ≡ false
  pub after : (t : ℕ) → 64 * end ≤ t → is_set words t ≡ false
  pub beyond : (t : ℕ) → size ≤ t → is_set words t ≡ false
