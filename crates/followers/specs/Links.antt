-- The followers of a meet as a row in which each leads to the next and back to the one before.
use Rattle.std.specs.Prelude.{ℕ, ◌≡◌, ◌+◌, ◌<◌, ◌==◌, true, if◌then◌else◌, Option, List, [], ◌∷◌, length, slice_index_or}
use Rattle.followers.specs.Ties.{is_to, tie_at}
use Rattle.followers.specs.declared.edits.Tie.{Tie}

-- how many followers a meet has
abbrev pub count_of : List (Option Tie) → ℕ → ℕ
count_of [] m = 0
count_of (tie ∷ more) m = if is_to m tie then 1 + count_of more m else count_of more m

-- how often a number stands in a list
abbrev pub occurs : ℕ → List ℕ → ℕ
occurs k [] = 0
occurs k (x ∷ xs) = (if x == k then 1 else 0) + occurs k xs

-- numbers below n in a row that begins with this one: each leads to the next and back to the one before, and n
-- stands before the first and after the last
abbrev pub IsRow : List ℕ → List ℕ → ℕ → ℕ → ℕ → List ℕ → Type 0
IsRow next prev n before at [] = at ≡ n
IsRow next prev n before at (x ∷ more) = (at ≡ x) × (x < n) × (slice_index_or prev x 0 ≡ before)
    × IsRow next prev n x (slice_index_or next x 0) more

-- the followers of a meet in some order
pub record HasRow (ties : List (Option Tie)) (next prev : List ℕ) (m at : ℕ) : Type 0 where
  pub list : List ℕ
  pub row : IsRow next prev (length ties) (length ties) at list
  pub each : (f : ℕ) → occurs f list ≡ (if is_to m (tie_at ties f) then 1 else 0)
  pub size : length list ≡ count_of ties m

-- for each meet its first follower, for each follower the next one and the one before, and for each meet how many
-- it has
pub record AreLinked (ties : List (Option Tie)) (first next prev counts : List ℕ) : Type 0 where
  pub long_first : length first ≡ length ties
  pub long_next : length next ≡ length ties
  pub long_prev : length prev ≡ length ties
  pub long_counts : length counts ≡ length ties
  pub leaders : (m f : ℕ) → is_to m (tie_at ties f) ≡ true → m < length ties
  pub rows : (m : ℕ) → m < length ties → HasRow ties next prev m (slice_index_or first m 0)
  pub many : (m : ℕ) → m < length ties → slice_index_or counts m 0 ≡ count_of ties m

-- a list without the first place at which a number stands
abbrev pub without : ℕ → List ℕ → List ℕ
without k [] = []
without k (x ∷ xs) = if x == k then xs else x ∷ without k xs
