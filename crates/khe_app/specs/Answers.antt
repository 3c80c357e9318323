-- What the program holds between reading and writing, and of which outcome that is.
use Rattle.std.specs.Prelude.{ℕ, ◌≡◌, ◌<◌, ◌≤◌, Bool, Option, Some, None, List, [], length, slice_get, encode_utf8_all}
use Rattle.khe_instance.specs.States.{IsValid}
use Rattle.khe_instance.specs.declared.parts.Parts.{Parts}
use Rattle.reading_commands.specs.Ends.{Written}
use Rattle.khe_app.specs.Outcome.{IsRunOf, IsScripted}
use Rattle.archive_reading.specs.Starting.{Start, begins, barred, start_in}
use Rattle.archive_reading.specs.Reading.{Reading, IsReadingOf}
use Rattle.archive_reading.specs.Refusals.{refusal_line}
use Rattle.khe_app.specs.Lines.{script_too_large_line}
use Rattle.khe_app.specs.declared.program.Play.{Play}
use Rattle.khe_app.specs.declared.program.Play.TheVariants as play
use Rattle.archive_reading.specs.declared.reading.Unread.{Unread}
use Rattle.archive_reading.specs.declared.reading.Unread.TheVariants as unread
use Rattle.khe_base.specs.declared.limits.TheConstants.{SCRIPT_BYTES}
use Rattle.khe_app.specs.declared.starting.Begun.{Begun}

-- a start that is held: the instance stands among those of the archive, and the timetable is valid
pub record IsBegun (s : Start) (b : Begun) : Type 0 where
  pub parts : Parts
  pub at : slice_get b.resolved.instances b.instance ≡ Some parts
  pub valid : IsValid parts b.plain
  pub is : s ≡ begins parts b.plain

-- what came of writing the line of a refusal, or nothing where memory ran out
abbrev pub IsUnreadEnd : Option (List ℕ) → Option (List ℕ) → ℕ → ℕ → ℕ → Unread → Type 0
IsUnreadEnd before after sink sink2 result (unread.Refused refusal) =
    Written before after sink sink2 (encode_utf8_all (refusal_line refusal)) 3 result
IsUnreadEnd before after sink sink2 result unread.NoMemory = (result ≡ 6) × (after ≡ before)

-- what a script leads to, of the start that is held and of what stands under its name
abbrev pub IsScriptOf : Begun → Option (List ℕ) → Play → Type 0
IsScriptOf b None a = ⊥
IsScriptOf b (Some script) (play.Refused refusal) = ⊥
IsScriptOf b (Some script) play.TooLarge = SCRIPT_BYTES < length script
IsScriptOf b (Some script) (play.Run begun bytes) = (bytes ≡ script) × (begun ≡ b) × (length script ≤ SCRIPT_BYTES)

-- it is held with a script that is not too large, or is not run
abbrev pub IsWith : Begun → Play → Type 0
IsWith b (play.Refused refusal) = ⊥
IsWith b play.TooLarge = Unit {0}
IsWith b (play.Run begun script) = (begun ≡ b) × (length script ≤ SCRIPT_BYTES)

-- what is to be written is what comes of a start and of what stands under the script's name
abbrev pub IsPlayOf : Start → Option (List ℕ) → Play → Type 0
IsPlayOf s script (play.Refused refusal) = s ≡ barred refusal
IsPlayOf s None play.TooLarge = ⊥
IsPlayOf s (Some script) play.TooLarge = (b : Begun) × IsBegun s b × (SCRIPT_BYTES < length script)
IsPlayOf s None (play.Run b bytes) = ⊥
IsPlayOf s (Some script) (play.Run b bytes) = IsBegun s b × (bytes ≡ script) × (length script ≤ SCRIPT_BYTES)

-- and of what stands under both names; whatever else is read from the archive, the script is not what is
-- missing
pub record IsPlayed (tied : Bool) (number : ℕ) (bytes : List ℕ) (script : Option (List ℕ)) (a : Play) : Type 0 where
  pub reading : Reading
  pub is : IsReadingOf bytes reading
  pub play : IsPlayOf (start_in number reading) script a
  pub there : (x : Reading) → IsReadingOf bytes x → IsScripted tied (start_in number x) script 4 [] → ⊥

abbrev pub IsPlayAnswer : Bool → ℕ → Option (List ℕ) → Option (List ℕ) → Play → Type 0
IsPlayAnswer tied number None script a = ⊥
IsPlayAnswer tied number (Some bytes) script a = IsPlayed tied number bytes script a

-- the instance stands among those of the archive, the timetable is valid, and the script is not too large
pub record IsHeld (b : Begun) (script : List ℕ) : Type 0 where
  pub parts : Parts
  pub at : slice_get b.resolved.instances b.instance ≡ Some parts
  pub valid : IsValid parts b.plain
  pub small : length script ≤ SCRIPT_BYTES

abbrev pub IsReadyPlay : Play → Type 0
IsReadyPlay (play.Refused refusal) = Unit {0}
IsReadyPlay play.TooLarge = Unit {0}
IsReadyPlay (play.Run b script) = IsHeld b script

-- a status and a text that come of it
abbrev pub IsTextOf : Bool → Play → ℕ → List ℕ → Type 0
IsTextOf tied (play.Refused refusal) status text = (status ≡ 3) × (text ≡ refusal_line refusal)
IsTextOf tied play.TooLarge status text = (status ≡ 7) × (text ≡ script_too_large_line)
IsTextOf tied (play.Run b script) status text = (p : Parts) → slice_get b.resolved.instances b.instance ≡ Some p
    → IsRunOf tied p b.plain script status text
