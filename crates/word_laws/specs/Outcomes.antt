-- The outcome of words by the table of commands.
use Rattle.std.specs.Prelude.{ℕ, ◌≡◌, ◌⊎◌, ◌↔◌, Option, Some, List}
use Rattle.khe_app.specs.Outcome.{IsOutcome, IsOutcomeOf}
use Rattle.reading_commands.specs.Lines.{not_understood_line}
use Rattle.command_words.specs.Words.{Asked}
use Rattle.command_words.specs.Table.{HasNoReading, IsReading}

-- the words ask for something by the table, and this is its outcome
pub record IsOutcomeOfReading (words : List (List ℕ)) (under : List ℕ → Option (List ℕ)) (status : ℕ) (text : List ℕ) : Type 0 where
  pub a : Asked
  pub reading : IsReading words a
  pub outcome : IsOutcomeOf (Some a) under status text

-- or for nothing, and are answered by a line
abbrev pub IsOutcomeByTable : List (List ℕ) → (List ℕ → Option (List ℕ)) → ℕ → List ℕ → Type 0
IsOutcomeByTable words under status text =
    IsOutcomeOfReading words under status text
    ⊎ (HasNoReading words × (status ≡ 2) × (text ≡ not_understood_line))

abbrev pub OutcomesAreByTable : Type 0
OutcomesAreByTable =
    (words : List (List ℕ)) (under : List ℕ → Option (List ℕ)) (status : ℕ) (text : List ℕ)
    → (IsOutcome words under status text ↔ IsOutcomeByTable words under status text)
