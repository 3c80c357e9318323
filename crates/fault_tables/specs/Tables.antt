-- The name that a table has for a number, or none where no row has the number.
use Rattle.std.specs.Prelude.{ℕ, ◌==◌, if◌then◌else◌, Option, Some, None, List, [], ◌∷◌}

-- what the row of a number says, and nothing where no row has it
abbrev pub said_of : {A : Type 0} → List (ℕ × A) → ℕ → Option A
said_of [] number = None
said_of ((n, a) ∷ rows) number = if number == n then Some a else said_of rows number
