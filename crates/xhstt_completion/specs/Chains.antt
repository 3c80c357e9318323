-- Chains of the numbers of entries, one for each event, in the order of the entries.
use Rattle.std.specs.Prelude.{ℕ, ◌≡◌, ◌+◌, ◌≤◌, Some, List, [], ◌∷◌, length, get_or, slice_get}
use Rattle.xhstt_shape.specs.declared.records.RawEntry.{RawEntry}

-- from a number on, the numbers that follow one another are those of these entries, in ascending order from
-- the least number on, and then there is none
abbrev pub IsChain : List RawEntry → List ℕ → ℕ → ℕ → List RawEntry → Type 0
IsChain entries nexts least at [] = length entries ≤ at
IsChain entries nexts least at (entry ∷ rest) = (least ≤ at) × (slice_get entries at ≡ Some entry)
    × IsChain entries nexts (at + 1) (get_or nexts at 0) rest
