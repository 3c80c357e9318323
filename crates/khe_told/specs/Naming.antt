-- Which places of a meet changes may give another resource: none, two, or all.
use Rattle.std.specs.Prelude.{ℕ, ◌≡◌, ◌==◌, ◌||◌, Bool, true, false, Option, List, slice_get}
use Rattle.khe_base.specs.declared.numbers.ResourceId.{ResourceId}
use Rattle.khe_told.specs.declared.changes.Change.{Change}
use Rattle.khe_told.specs.declared.changes.Change.TheVariants.{Give, Take}
use Rattle.khe_told.specs.declared.naming.Places.{Places}
use Rattle.khe_told.specs.declared.naming.Places.TheVariants.{Nowhere, Two, All}

-- whether a place is among those named
abbrev pub is_named : Places → ℕ → Bool
is_named Nowhere j = false
is_named (Two first second) j = (first == j) || (second == j)
is_named All j = true

-- at all other places two meets are given the same
abbrev pub AreSameBut : Places → List (Option ResourceId) → List (Option ResourceId) → Type 0
AreSameBut places before later = (j : ℕ) → is_named places j ≡ false → slice_get before j ≡ slice_get later j

-- whether a change gives this place something else
abbrev pub gives_at : ℕ → Change → Bool
gives_at j (Give t r) = t.place == j
gives_at j (Take t r) = t.place == j
gives_at j _ = false
