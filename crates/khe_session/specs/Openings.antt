-- The state that a session begins with, or the line that says why there is none.
use Rattle.std.specs.Prelude.{ℕ, ◌≡◌, Option, None, Some, List, encode_utf8_all}
use Rattle.archive_reading.specs.Reading.{IsReadingOf, Reading, evaluable}
use Rattle.archive_reading.specs.Refusals.{refusal_line}
use Rattle.archive_reading.specs.Starting.{Start, barred, begins, start_in, start_of}
use Rattle.archive_reading.specs.declared.reading.Unread.{Unread}
use Rattle.archive_reading.specs.declared.reading.Unread.TheVariants as unread
use Rattle.archive_reading.specs.declared.refusals.Refusal.{Refusal}
use Rattle.khe_engine.specs.Openings.{IsStateOf}
use Rattle.khe_engine.specs.States.{State}
use Rattle.khe_instance.specs.declared.parts.Parts.{Parts}
use Rattle.khe_instance.specs.declared.states.Plain.{Plain}
use Rattle.script_run.specs.Plays.{begun}
use Rattle.xhstt_resolve.specs.declared.resolving.Resolved.{Resolved}
use Rattle.xhstt_shape.specs.declared.records.Archive.{Archive}
use Rattle.khe_session.specs.States.{SessionState, blank}
use Rattle.khe_session.specs.declared.faults.Unopened.{Unopened}
use Rattle.khe_session.specs.declared.faults.Unopened.TheVariants as unopened

-- it has this archive and solution, a state that lists this timetable of an instance, no marks, and answered no line
pub record IsStarted (a : Archive) (number : ℕ) (p : Parts) (plain : Plain) (s : SessionState) : Type 0 where
  pub state : State
  pub lists : IsStateOf p plain state
  pub is : s ≡ record { archive = blank a number p; solution = number; parts = p; play = begun state; lines = 0 }

-- it has that of a solution of an archive that was read
pub record IsBegun (a : Archive) (r : Resolved) (number : ℕ) (s : SessionState) : Type 0 where
  pub parts : Parts
  pub plain : Plain
  pub start_is : start_of a r number ≡ begins parts plain
  pub started : IsStarted a number parts plain s

-- and these bytes are read as that archive
pub record IsOpened (bytes : List ℕ) (number : ℕ) (s : SessionState) : Type 0 where
  pub archive : Archive
  pub resolved : Resolved
  pub is : IsReadingOf bytes (evaluable archive resolved)
  pub begun : IsBegun archive resolved number s

-- a session that was just opened is not spent
abbrev pub HasStarted : Archive → ℕ → Parts → Plain → Option SessionState → Type 0
HasStarted a number p plain None = ⊥
HasStarted a number p plain (Some s) = IsStarted a number p plain s

abbrev pub HasBegun : Archive → Resolved → ℕ → Option SessionState → Type 0
HasBegun a r number None = ⊥
HasBegun a r number (Some s) = IsBegun a r number s

abbrev pub HasOpened : List ℕ → ℕ → Option SessionState → Type 0
HasOpened bytes number None = ⊥
HasOpened bytes number (Some s) = IsOpened bytes number s

-- the line is that of a refusal
abbrev pub IsLineOf : Refusal → Unopened → Type 0
IsLineOf refusal (unopened.Refused line) = line.items ≡ encode_utf8_all (refusal_line refusal)
IsLineOf refusal unopened.NoMemory = Unit {0}

-- it says why an archive is not read, or why a solution is not begun with
abbrev pub IsTold : Unread → Unopened → Type 0
IsTold (unread.Refused refusal) u = IsLineOf refusal u
IsTold unread.NoMemory (unopened.Refused line) = ⊥
IsTold unread.NoMemory unopened.NoMemory = Unit {0}

-- it says why a start is none
abbrev pub IsStoppedBy : Start → Unopened → Type 0
IsStoppedBy s (unopened.Refused line) =
    (refusal : Refusal) × (s ≡ barred refusal) × (line.items ≡ encode_utf8_all (refusal_line refusal))
IsStoppedBy s unopened.NoMemory = Unit {0}

-- a reading of these bytes whose solution with this number is refused by this line
pub record IsRefusedBy (bytes : List ℕ) (number : ℕ) (line : List ℕ) : Type 0 where
  pub reading : Reading
  pub is : IsReadingOf bytes reading
  pub refusal : Refusal
  pub barred_is : start_in number reading ≡ barred refusal
  pub line_is : line ≡ encode_utf8_all (refusal_line refusal)

-- or memory was refused
abbrev pub IsBarredBy : List ℕ → ℕ → Unopened → Type 0
IsBarredBy bytes number (unopened.Refused line) = IsRefusedBy bytes number line.items
IsBarredBy bytes number unopened.NoMemory = Unit {0}
