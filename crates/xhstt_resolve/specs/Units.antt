-- The least common multiple of the durations of events, as a running multiple that stops above the limit.
use Rattle.std.specs.Prelude.{ℕ, ◌*◌, ◌%◌, ◌==◌, List, [], ◌∷◌, find}
use Rattle.std.specs.List.{fold, range_with_len}
use Rattle.std.specs.Option.{option_map_or}

-- the least common multiple of two numbers: of the multiples of the first, the least that the second
-- divides
abbrev pub least_multiple : ℕ → ℕ → ℕ
least_multiple a b = option_map_or (λ k. a * k) (find (λ k. (a * k) % b == 0) (range_with_len 1 b)) 0

-- the running multiples: of the first duration, of the first two, and so on
abbrev pub running_units : ℕ → List ℕ → List ℕ
running_units unit [] = []
running_units unit (d ∷ ds) = least_multiple unit d ∷ running_units (least_multiple unit d) ds

-- the last of them, and 1 where there are no durations
abbrev pub unit_of : List ℕ → ℕ
unit_of durations = fold least_multiple 1 durations
