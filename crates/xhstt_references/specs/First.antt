-- The least of some places that are noted one after the other.
use Rattle.std.specs.Prelude.{ℕ, min, Option, Some, None, List}
use Rattle.std.specs.List.{fold}

-- a place, after the places that were noted before
abbrev pub noted : Option ℕ → ℕ → Option ℕ
noted None at = Some at
noted (Some first) at = Some (min first at)

-- these places, after the places that were noted before
unfoldable pub first_of : Option ℕ → List ℕ → Option ℕ
first_of first places = fold noted first places
