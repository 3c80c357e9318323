-- A batch is some solutions that follow one another, with their numbers. A window has the results of batches, each
-- of which begins where the one before it ends.
use Rattle.std.specs.Prelude.{ℕ, ◌≡◌, ◌+◌, ◌≤◌, ◌<◌, List, [], ◌∷◌, length, take, drop}
use Rattle.std.specs.List.{enumerate_from}
use Rattle.xhstt_shape.specs.declared.records.RawSolution.{RawSolution}

-- of all solutions a number of them, from this one on
abbrev pub batch_of : ℕ → ℕ → List RawSolution → List (ℕ × RawSolution)
batch_of first count raws = enumerate_from first (take count (drop first raws))

-- of all solutions, those from this number on
abbrev pub rows_from : ℕ → List RawSolution → List (ℕ × RawSolution)
rows_from first raws = enumerate_from first (drop first raws)

-- each of these is made of a batch: the first batch begins with this number, each other where the one before
-- it ends, and the last one ends before the second number
abbrev pub AreBatches : {M : Type 0} → (List (ℕ × RawSolution) → M) → List RawSolution → ℕ → ℕ → List M → Type 0
AreBatches f raws first next [] = first ≡ next
AreBatches f raws first next (m ∷ ms) =
    (count : ℕ) × (first + count ≤ next) × (m ≡ f (batch_of first count raws))
    × AreBatches f raws (first + count) next ms

-- what is made of a window over the solutions from a first one on: it reaches up to a next one, and is empty
-- only where no solution is left
pub record IsWindow {M : Type 0} (f : List (ℕ × RawSolution) → M) (raws : List RawSolution) (first next : ℕ)
    (made : List M) : Type 0 where
  pub within : next ≤ length raws
  pub some : first < length raws → first < next
  pub batches : AreBatches f raws first next made
