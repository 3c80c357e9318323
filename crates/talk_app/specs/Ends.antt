-- How a run of `khe-talk` ends: by an outcome that is written whole, by a device that refused a call, or
-- because memory ran out.
use Rattle.std.specs.Prelude.{ℕ, ◌≡◌, ◌⊎◌, Option, None, Some, IfSome, Result, Ok, Err, List}
use Rattle.khe_io.specs.Faults.{Rose, Took, TookFront}
use Rattle.khe_io.specs.Shelf.{IsMissing}
use Rattle.reading_commands.specs.Ends.{Holdings}
use Rattle.talk_app.specs.Outcome.{IsOutcome}
use Rattle.talk_app.specs.Words.{Asked, asked}
use Rattle.talk_run.specs.Between.{HadLeft}
use Rattle.talk_run.specs.declared.faults.TalkFault.{TalkFault}
use Rattle.talk_run.specs.declared.faults.TalkFault.TheVariants.{ReadFault, WriteFault, NoMemory}

-- what came of writing bytes before a status: the sink took all; or, before one of the other statuses, first bytes of
-- them, because it refused a call, a line could not be read, or memory ran out
abbrev pub Wrote : Option (List ℕ) → Option (List ℕ) → ℕ → ℕ → List ℕ → ℕ → ℕ → Type 0
Wrote before after faults faults2 bytes status result =
    ((result ≡ status) × Took before after bytes)
    ⊎ ((result ≡ 5) × Rose faults faults2 × TookFront before after bytes)
    ⊎ (((result ≡ 4) ⊎ (result ≡ 6)) × TookFront before after bytes)

-- of bytes that are all that a reader had left, where it tells them, an outcome was written
pub record IsWritten (outcome : List ℕ → ℕ → List ℕ → Type 0) (left before after : Option (List ℕ)) (faults faults2 : ℕ)
    (result : ℕ) : Type 0 where
  pub input : List ℕ
  pub all : HadLeft left input
  pub status : ℕ
  pub bytes : List ℕ
  pub is : outcome input status bytes
  pub wrote : Wrote before after faults faults2 bytes status result

-- or nothing was: the archive could not be read, or memory ran out
abbrev pub IsEnd : (List ℕ → ℕ → List ℕ → Type 0) → Option (List ℕ) → Option (List ℕ) → Option (List ℕ) → ℕ → ℕ → ℕ
    → Type 0
IsEnd outcome left before after faults faults2 result =
    (((result ≡ 4) ⊎ (result ≡ 6)) × (after ≡ before)) ⊎ IsWritten outcome left before after faults faults2 result

-- the status after a talk
abbrev pub status_after : Result (Unit {0}) TalkFault → ℕ
status_after (Ok u) = 0
status_after (Err ReadFault) = 4
status_after (Err WriteFault) = 5
status_after (Err NoMemory) = 6

-- the shelf tells that nothing stands under the name of the archive that is asked for
abbrev pub LacksArchiveOf : Option Asked → Holdings → Type 0
LacksArchiveOf None holdings = ⊥
LacksArchiveOf (Some a) holdings = IsMissing holdings a.archive

-- the same, by the words
abbrev pub LacksArchive : List (List ℕ) → Holdings → Type 0
LacksArchive words = LacksArchiveOf (asked words)

-- of bytes that are all that a reader had left, where it tells them, an outcome with this status was written whole
pub record IsWhole (outcome : List ℕ → ℕ → List ℕ → Type 0) (left before after : Option (List ℕ)) (status : ℕ) : Type 0 where
  pub input : List ℕ
  pub all : HadLeft left input
  pub bytes : List ℕ
  pub is : outcome input status bytes
  pub took : Took before after bytes

-- a run ended so; or the archive's name is missing, and nothing was written
abbrev pub EndedOf : Option Asked → Holdings → Option (List ℕ) → Option (List ℕ) → Option (List ℕ) → ℕ → Type 0
EndedOf a holdings left before after status =
    ((status ≡ 4) × LacksArchiveOf a holdings × (after ≡ before))
    ⊎ IfSome holdings (λ under. IsWhole (IsOutcome a under) left before after status)

-- the same, by the words
abbrev pub EndedBy : List (List ℕ) → Holdings → Option (List ℕ) → Option (List ℕ) → Option (List ℕ) → ℕ → Type 0
EndedBy words = EndedOf (asked words)
