-- The outcome of words, said without any machine: what they ask for by the table of commands, and what an archive's
-- bytes lead to by the rows of faults and the grammar of texts.
use Rattle.std.specs.Prelude.{ℕ, ◌≡◌, ◌⊎◌, Option, Some, None, IfSome, List, [], encode_utf8_all}
use Rattle.archive_reading.specs.Reading.{Reading}
use Rattle.archive_reading.specs.Starting.{start_in}
use Rattle.command_words.specs.Table.{HasNoReading, IsReading}
use Rattle.command_words.specs.Words.{Asked, archive_of, checking, constructing, evaluating, making, matching}
use Rattle.command_words.specs.Words.{repairing, running, scripting, solving}
use Rattle.khe_app.specs.Outcome.{IsConstructIn, IsMatchIn, IsOutcomeOf, IsRepairIn, IsScripted, IsSolveIn}
use Rattle.khe_app.specs.Readings.{IsReadingByRows}
use Rattle.khe_io.specs.Faults.{Took}
use Rattle.reading_commands.specs.Ends.{Holdings}
use Rattle.reading_commands.specs.Lines.{not_understood_line}
use Rattle.reading_commands.specs.Outcome.{spelling_of, status_of, text_of}

-- what stands under each name
abbrev pub Shelf : Type 0
Shelf = List ℕ → Option (List ℕ)

-- what each command on an archive makes of its reading; the other commands read none
abbrev pub ComesOf : Asked → Shelf → Reading → ℕ → List ℕ → Type 0
ComesOf (evaluating archive all) under reading status text = (status ≡ status_of reading) × (text ≡ text_of all reading)
ComesOf (scripting archive number script tied) under reading status text =
    IsScripted tied (start_in number reading) (under script) status text
ComesOf (checking archive) under reading status text =
    (status ≡ status_of reading) × (encode_utf8_all text ≡ spelling_of reading)
ComesOf (repairing archive number depth budget) under reading status text =
    IsRepairIn number depth budget reading status text
ComesOf (solving archive number depth budget jobs) under reading status text =
    IsSolveIn number depth budget jobs reading status text
ComesOf (matching archive number time rtype) under reading status text = IsMatchIn number time rtype reading status text
ComesOf (constructing archive number chains) under reading status text = IsConstructIn number chains reading status text
ComesOf (making seed size) under reading status text = ⊥
ComesOf (running seed size) under reading status text = ⊥

-- a reading of the bytes, by the rows and the grammar, and what comes of it
pub record IsOutcomeByRows (a : Asked) (bytes : List ℕ) (under : Shelf) (status : ℕ) (text : List ℕ) : Type 0 where
  pub reading : Reading
  pub is : IsReadingByRows bytes reading
  pub comes : ComesOf a under reading status text

-- the same of what stands under the archive's name; where nothing does, status 4 and no text
abbrev pub IsOutcomeThere : Asked → Shelf → Option (List ℕ) → ℕ → List ℕ → Type 0
IsOutcomeThere a under None status text = (status ≡ 4) × (text ≡ [])
IsOutcomeThere a under (Some bytes) status text = IsOutcomeByRows a bytes under status text

-- or of a command that reads no archive
abbrev pub IsOutcomeWith : Asked → Option (List ℕ) → Shelf → ℕ → List ℕ → Type 0
IsOutcomeWith a None under status text = IsOutcomeOf (Some a) under status text
IsOutcomeWith a (Some archive) under status text = IsOutcomeThere a under (under archive) status text

-- the words ask for something by the table, and this is its outcome
pub record IsOutcomeOfTable (words : List (List ℕ)) (under : Shelf) (status : ℕ) (text : List ℕ) : Type 0 where
  pub asked : Asked
  pub reading : IsReading words asked
  pub outcome : IsOutcomeWith asked (archive_of (Some asked)) under status text

-- or for nothing, and are answered by a line
abbrev pub IsOutcomeByTables : List (List ℕ) → Shelf → ℕ → List ℕ → Type 0
IsOutcomeByTables words under status text =
    IsOutcomeOfTable words under status text
    ⊎ (HasNoReading words × (status ≡ 2) × (text ≡ not_understood_line))

-- the run ended by such an outcome with this status, and the sink took the outcome's whole text
abbrev pub EndedByTables : List (List ℕ) → Holdings → Option (List ℕ) → Option (List ℕ) → ℕ → Type 0
EndedByTables words holdings before after status =
    IfSome holdings (λ under. (text : List ℕ) × IsOutcomeByTables words under status text
    × Took before after (encode_utf8_all text))
