-- The greatest and the least number of a list.
use Rattle.std.specs.Prelude.{ℕ, max, min, Option, Some, None, List, [], ◌∷◌}
use Rattle.std.specs.List.{fold}

abbrev pub greatest_of : List ℕ → Option ℕ
greatest_of [] = None
greatest_of (x ∷ xs) = Some (fold max x xs)

abbrev pub least_of : List ℕ → Option ℕ
least_of [] = None
least_of (x ∷ xs) = Some (fold min x xs)
