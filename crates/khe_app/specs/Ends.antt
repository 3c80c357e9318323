-- How a run of `khe` ends: by the outcome that the definitions give, by a device that refused a call, or
-- because memory ran out.
use Rattle.std.specs.Prelude.{ℕ, ◌≡◌, ◌⊎◌, Bool, IsTrue, if◌then◌else◌, Option, IfSome, IsSomeAnd, Result, Ok, Err}
use Rattle.std.specs.Prelude.{List, []}
use Rattle.std.specs.Prelude.{encode_utf8_all}
use Rattle.khe_io.specs.Faults.{Rose, Took, TookFront}
use Rattle.khe_io.specs.Shelf.{IsMissing}
use Rattle.khe_app.specs.Outcome.{IsOutcomeOf}
use Rattle.reading_commands.specs.Ends.{Holdings, IsDecided, IsStatus}
use Rattle.command_words.specs.Words.{Asked, archive_of, asked}
use Rattle.khe_io.specs.declared.pieces.Cut.{Cut}
use Rattle.khe_io.specs.declared.pieces.Cut.TheVariants.{WriteFault, NoMemory}

-- the run ended by the outcome with this status, and the sink took the outcome's whole text
abbrev pub EndedOf : Option Asked → Holdings → Option (List ℕ) → Option (List ℕ) → ℕ → Type 0
EndedOf asked holdings before after status =
    IfSome holdings (λ under. (text : List ℕ) × IsOutcomeOf asked under status text
    × Took before after (encode_utf8_all text))

-- the run was cut off: the sink took some first bytes of an outcome's text
abbrev pub CutOffOf : Option Asked → Holdings → Option (List ℕ) → Option (List ℕ) → Type 0
CutOffOf asked holdings before after =
    IfSome holdings (λ under. (status : ℕ) × (text : List ℕ) × IsOutcomeOf asked under status text
    × TookFront before after (encode_utf8_all text))

-- the shelf tells that nothing stands under a name whose reading is reached
abbrev pub LacksOf : Option Asked → Holdings → Type 0
LacksOf asked holdings = IsSomeAnd holdings (λ under. IsOutcomeOf asked under 4 [])

-- the shelf tells that nothing stands under the name of the archive that is read
abbrev pub LacksArchiveOf : Option Asked → Holdings → Type 0
LacksArchiveOf asked holdings = IsSomeAnd (archive_of asked) (IsMissing holdings)

-- the same, by the words
abbrev pub EndedBy : List (List ℕ) → Holdings → Option (List ℕ) → Option (List ℕ) → ℕ → Type 0
EndedBy words = EndedOf (asked words)

abbrev pub CutOff : List (List ℕ) → Holdings → Option (List ℕ) → Option (List ℕ) → Type 0
CutOff words = CutOffOf (asked words)

abbrev pub LacksName : List (List ℕ) → Holdings → Type 0
LacksName words = LacksOf (asked words)

abbrev pub LacksArchive : List (List ℕ) → Holdings → Type 0
LacksArchive words = LacksArchiveOf (asked words)

-- the status after a run of a script: it was read to its end or not, or its text was cut off
abbrev pub status_after : Result Bool Cut → ℕ
status_after (Ok read) = if read then 0 else 7
status_after (Err WriteFault) = 5
status_after (Err NoMemory) = 6

-- a run of what is asked for ended with this status: a shelf that is sound or not with its faults before
-- and after, what a sink had taken before and after, and its faults
pub record IsEnd (a : Option Asked) (h : Holdings) (sound : Bool) (shelf shelf2 : ℕ) (before after : Option (List ℕ))
    (sink sink2 status : ℕ) : Type 0 where
  pub known : IsStatus status
  pub decided : IsDecided status → EndedOf a h before after status
  pub read_fault : status ≡ 4 → Rose shelf shelf2
  pub nothing_written : status ≡ 4 → after ≡ before
  pub missing : IsTrue sound → status ≡ 4 → LacksOf a h
  pub found : IsTrue sound → LacksOf a h → (status ≡ 4) ⊎ (status ≡ 6)
  pub write_fault : status ≡ 5 → Rose sink sink2
  pub cut_off : status ≡ 5 → CutOffOf a h before after
  pub no_memory : status ≡ 6 → (after ≡ before) ⊎ CutOffOf a h before after
  pub complete : IsTrue sound ⊎ (Rose shelf shelf2 → ⊥) → (Rose sink sink2 → ⊥)
      → (status ≡ 6) ⊎ EndedOf a h before after status
