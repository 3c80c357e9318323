-- What a shelf holds is a function from the bytes of a name to the bytes under it, or is not told at all. A name is
-- missing where the shelf tells that nothing stands under it.
use Rattle.std.specs.Prelude.{◌≡◌, ℕ, ◌<◌, List, [], ◌++◌, length, Option, None, Some, IfSome, IsSomeAnd, ◌↔◌}
use Rattle.std.specs.Option.{option_map}

-- these bytes stand under the name, where the shelf tells it
abbrev pub StandsUnder : Option (List ℕ → Option (List ℕ)) → List ℕ → List ℕ → Type 0
StandsUnder holdings name bytes = IfSome holdings (λ under. under name ≡ Some bytes)

-- the shelf tells that nothing stands under the name
abbrev pub IsMissing : Option (List ℕ → Option (List ℕ)) → List ℕ → Type 0
IsMissing holdings name = IsSomeAnd holdings (λ under. under name ≡ None)

-- more than this many bytes stand under the name, where the shelf tells it
abbrev pub StandsAbove : Option (List ℕ → Option (List ℕ)) → List ℕ → ℕ → Type 0
StandsAbove holdings name limit = IfSome holdings (λ under. IsSomeAnd (under name) (λ bytes. limit < length bytes))

-- what is left of a source that was just opened is all that stands under its name, where the shelf
-- tells it
abbrev pub Opened : Option (List ℕ → Option (List ℕ)) → List ℕ → Option (List ℕ) → Type 0
Opened holdings name left = IfSome holdings (λ under. IsSomeAnd left (λ bytes. under name ≡ Some bytes))

-- these bytes were taken from the front of what was left: told where that was told, and else untold
abbrev pub Gave : Option (List ℕ) → Option (List ℕ) → List ℕ → Type 0
Gave before after bytes = before ≡ option_map (λ rest. bytes ++ rest) after

-- a read gave no byte exactly where none was left
abbrev pub EndsWhereNoneIsLeft : Option (List ℕ) → ℕ → Type 0
EndsWhereNoneIsLeft left count = IfSome left (λ bytes. (count ≡ 0) ↔ (bytes ≡ []))
