-- Entries of a table that stand for sets, each by the number of its set.
use Rattle.std.specs.Prelude.{ℕ, ◌≡◌, ◌<◌, ◌≤◌, Bool, ◌&&◌, List, [], length, All, slice_index_or}
use Rattle.khe_base.specs.IdSet.{has_member}

-- the set of an entry
abbrev pub set_at : List (List Bool) → List ℕ → ℕ → List Bool
set_at sets entries i = slice_index_or sets (slice_index_or entries i 0) []

-- whether a number is in both sets
abbrev pub has_both : List Bool → List Bool → ℕ → Bool
has_both one other n = has_member one n && has_member other n

-- each entry names a set, all sets have the same size, and no entry shares a set that is not one of the first n
-- of them
pub record AreSets (shared size : ℕ) (sets : List (List Bool)) (entries : List ℕ) : Type 0 where
  pub sized : All (λ set. length set ≡ size) sets
  pub given : (i : ℕ) → i < length entries → slice_index_or entries i 0 < length sets
  pub first : shared ≤ length sets
  pub apart : (i j : ℕ) → i < length entries → j < length entries → shared ≤ slice_index_or entries i 0
      → slice_index_or entries i 0 ≡ slice_index_or entries j 0 → i ≡ j
