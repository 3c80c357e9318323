-- Lists of numbers, one for each key or pair of keys, while numbers are added to them.
use Rattle.std.specs.Prelude.{ℕ, ◌≡◌, ◌<◌, ◌++◌, ◌∷◌, [], if◌then◌else◌, Bool, List, length, slice_index_or}
use Rattle.std.specs.List.{filter, range_with_len}

-- a number came to the end of the lists that pass a test
pub record IsAdded (test : ℕ → Bool) (number : ℕ) (old new : List (List ℕ)) : Type 0 where
  pub rows : length new ≡ length old
  pub each : (k : ℕ) → k < length old → slice_index_or new k [] ≡ slice_index_or old k []
      ++ (if test k then number ∷ [] else [])

-- in each list are those of the first numbers that pass its test
pub record AreListed (test : ℕ → ℕ → Bool) (count numbers : ℕ) (lists : List (List ℕ)) : Type 0 where
  pub rows : length lists ≡ count
  pub each : (k : ℕ) → k < count → slice_index_or lists k [] ≡ filter (test k) (range_with_len 0 numbers)

-- the list at two numbers, and none beyond the last
abbrev pub list_at : List (List (List ℕ)) → ℕ → ℕ → List ℕ
list_at table a b = slice_index_or (slice_index_or table a []) b []

-- a number came to the end of the lists of a table that pass a test
pub record IsAddedAt (test : ℕ → ℕ → Bool) (number : ℕ) (old new : List (List (List ℕ))) : Type 0 where
  pub rows : length new ≡ length old
  pub widths : (a : ℕ) → a < length old → length (slice_index_or new a []) ≡ length (slice_index_or old a [])
  pub each : (a b : ℕ) → a < length old → b < length (slice_index_or old a []) → list_at new a b ≡ list_at old a b
      ++ (if test a b then number ∷ [] else [])

-- in each list of a table, of n rows of these widths, are those of the first numbers that pass its test
pub record AreTabled (test : ℕ → ℕ → ℕ → Bool) (rows : ℕ) (width : ℕ → ℕ) (numbers : ℕ)
    (table : List (List (List ℕ))) : Type 0 where
  pub rows_are : length table ≡ rows
  pub widths : (a : ℕ) → a < rows → length (slice_index_or table a []) ≡ width a
  pub each : (a b : ℕ) → a < rows → b < width a → list_at table a b ≡ filter (test a b) (range_with_len 0 numbers)
