-- A fault was counted where the count grew, or already stood at its greatest value. A sink took bytes where
-- what it tells now is what it told before, followed by these bytes.
use Rattle.std.specs.Prelude.{◌≡◌, ℕ, ◌-◌, ◌^◌, ◌<◌, List, ◌++◌, Option, ◌⊎◌}
use Rattle.std.specs.Option.{option_map}

-- a fault was counted: the count grew, or it stood at its last value already
abbrev pub Rose : ℕ → ℕ → Type 0
Rose before after = (before < after) ⊎ (before ≡ 2 ^ 64 - 1)

-- a sink took these bytes, after all that it had taken: told where that was told, and else untold
abbrev pub Took : Option (List ℕ) → Option (List ℕ) → List ℕ → Type 0
Took before after bytes = after ≡ option_map (λ taken. taken ++ bytes) before

-- a sink took some first bytes of these
abbrev pub TookFront : Option (List ℕ) → Option (List ℕ) → List ℕ → Type 0
TookFront before after bytes =
    (front : List ℕ) × (rest : List ℕ) × (bytes ≡ front ++ rest) × Took before after front
