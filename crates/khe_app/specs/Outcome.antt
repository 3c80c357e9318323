-- The outcome of a run of `khe`: a status and a text, by the words and by what stands under the names, with a row
-- for each command.
use Rattle.std.specs.Prelude.{ℕ, ◌≡◌, ◌<◌, ◌≤◌, ◌⊎◌, Bool, true, false, if◌then◌else◌, Option, Some, None, Ok, List, []}
use Rattle.std.specs.Prelude.{length, slice_get, encode_utf8_all}
use Rattle.archive_reading.specs.Reading.{Reading, evaluable, refused, IsReadingOf}
use Rattle.archive_reading.specs.Starting.{Start, begins, barred, start_of, start_in}
use Rattle.construct_run.specs.Constructs.{IsConstructText}
use Rattle.archive_generator.specs.Made.{made}
use Rattle.khe_engine.specs.Openings.{IsStateOf}
use Rattle.khe_engine.specs.States.{State}
use Rattle.khe_instance.specs.declared.parts.Parts.{Parts}
use Rattle.khe_instance.specs.declared.states.Plain.{Plain}
use Rattle.made_run.specs.Runs.{IsRunLine}
use Rattle.match_run.specs.Found.{AreTooMany}
use Rattle.match_run.specs.Texts.{IsMatchText}
use Rattle.repair_run.specs.Repairs.{IsRepairText}
use Rattle.repair_run.specs.Solves.{IsSolveText}
use Rattle.script_run.specs.Plays.{begun}
use Rattle.script_run.specs.Scripts.{is_script, script_text}
use Rattle.tied_run.specs.Plays.{untied}
use Rattle.tied_run.specs.Scripts.{is_tied_script, tied_text}
use Rattle.xhstt_shape.specs.declared.records.Archive.{Archive}
use Rattle.xhstt_resolve.specs.Resolved.{resolved}
use Rattle.xhstt_resolve.specs.declared.resolving.Resolved.{Resolved}
use Rattle.xhstt_writer.specs.Archives.{canonical}
use Rattle.archive_reading.specs.Refusals.{refusal_line}
use Rattle.khe_app.specs.Lines.{script_too_large_line}
use Rattle.reading_commands.specs.Outcome.{IsAnswerTo, IsSpellingTo}
use Rattle.reading_commands.specs.Lines.{not_understood_line}
use Rattle.command_words.specs.Words.{Asked, asked, evaluating, scripting, checking, repairing, solving, matching, making, running}
use Rattle.khe_base.specs.declared.limits.TheConstants.{SCRIPT_BYTES}
use Rattle.archive_reading.specs.declared.refusals.Refusal.{Refusal}
use Rattle.archive_reading.specs.declared.refusals.Refusal.TheVariants.{NoSuchTime, NoSuchType, TooManyTasks, NoSuchInstance}
use Rattle.command_words.specs.Words.{constructing}

-- what a script answers on a state without ties, and whether it is read to its end: by the lines of scripts, or by
-- the wider table of lines that may speak of ties
abbrev pub answers_of : Bool → Parts → State → List ℕ → List ℕ
answers_of false p s script = script_text p (begun s) script
answers_of true p s script = tied_text p (begun (untied s)) script

abbrev pub is_understood : Bool → List ℕ → Bool
is_understood false script = is_script script
is_understood true script = is_tied_script script

-- the answers to a script on a state that lists this timetable; the status tells whether it was read
-- to its end
pub record IsRunOf (tied : Bool) (p : Parts) (plain : Plain) (script : List ℕ) (status : ℕ) (text : List ℕ) : Type 0 where
  pub state : State
  pub is : IsStateOf p plain state
  pub status_is : status ≡ (if is_understood tied script then 0 else 7)
  pub text_is : text ≡ answers_of tied p state script

-- a script of these bytes: above the greatest size it is not run
abbrev pub IsRunOr : Bool → Parts → Plain → List ℕ → ℕ → List ℕ → Type 0
IsRunOr tied p plain script status text =
    ((SCRIPT_BYTES < length script) × (status ≡ 7) × (text ≡ script_too_large_line))
    ⊎ ((length script ≤ SCRIPT_BYTES) × IsRunOf tied p plain script status text)

-- what comes of a start and of what stands under the script's name; where nothing stands there, status 4
-- and no text
abbrev pub IsScripted : Bool → Start → Option (List ℕ) → ℕ → List ℕ → Type 0
IsScripted tied (barred refusal) script status text = (status ≡ 3) × (text ≡ refusal_line refusal)
IsScripted tied (begins p plain) None status text = (status ≡ 4) × (text ≡ [])
IsScripted tied (begins p plain) (Some script) status text = IsRunOr tied p plain script status text

-- a reading of the archive's bytes, and what comes of it with the script
pub record IsPlayed (tied : Bool) (number : ℕ) (bytes : List ℕ) (script : Option (List ℕ)) (status : ℕ) (text : List ℕ) : Type 0 where
  pub reading : Reading
  pub is : IsReadingOf bytes reading
  pub scripted : IsScripted tied (start_in number reading) script status text

abbrev pub IsPlayTo : Bool → ℕ → Option (List ℕ) → Option (List ℕ) → ℕ → List ℕ → Type 0
IsPlayTo tied number None script status text = (status ≡ 4) × (text ≡ [])
IsPlayTo tied number (Some bytes) script status text = IsPlayed tied number bytes script status text

-- what comes of a start: the archive in which the repair of its timetable takes the place of the solution,
-- and the line on the repair
abbrev pub IsRepairOf : Archive → ℕ → ℕ → ℕ → Start → ℕ → List ℕ → Type 0
IsRepairOf a number depth budget (barred refusal) status text = (status ≡ 3) × (text ≡ refusal_line refusal)
IsRepairOf a number depth budget (begins p plain) status text =
    (status ≡ 0) × IsRepairText a number p plain depth budget text

abbrev pub IsRepairIn : ℕ → ℕ → ℕ → Reading → ℕ → List ℕ → Type 0
IsRepairIn number depth budget (evaluable a r) status text =
    IsRepairOf a number depth budget (start_of a r number) status text
IsRepairIn number depth budget (refused refusal) status text = (status ≡ 3) × (text ≡ refusal_line refusal)

-- a reading of the archive's bytes, and what comes of its solution with this number
pub record IsRepaired (number depth budget : ℕ) (bytes : List ℕ) (status : ℕ) (text : List ℕ) : Type 0 where
  pub reading : Reading
  pub is : IsReadingOf bytes reading
  pub repaired : IsRepairIn number depth budget reading status text

-- what the bytes under the archive's name are repaired to; where nothing stands there, status 4 and no text
abbrev pub IsRepairTo : ℕ → ℕ → ℕ → Option (List ℕ) → ℕ → List ℕ → Type 0
IsRepairTo number depth budget None status text = (status ≡ 4) × (text ≡ [])
IsRepairTo number depth budget (Some bytes) status text = IsRepaired number depth budget bytes status text

-- what comes of a start: the archive in which the least result of many repairs of its timetable takes the
-- place of the solution, and the line on its job
abbrev pub IsSolveOf : Archive → ℕ → ℕ → ℕ → ℕ → Start → ℕ → List ℕ → Type 0
IsSolveOf a number depth budget jobs (barred refusal) status text = (status ≡ 3) × (text ≡ refusal_line refusal)
IsSolveOf a number depth budget jobs (begins p plain) status text =
    (status ≡ 0) × IsSolveText a number p plain depth budget jobs text

abbrev pub IsSolveIn : ℕ → ℕ → ℕ → ℕ → Reading → ℕ → List ℕ → Type 0
IsSolveIn number depth budget jobs (evaluable a r) status text =
    IsSolveOf a number depth budget jobs (start_of a r number) status text
IsSolveIn number depth budget jobs (refused refusal) status text = (status ≡ 3) × (text ≡ refusal_line refusal)

-- a reading of the archive's bytes, and what comes of its solution with this number
pub record IsSolvedFrom (number depth budget jobs : ℕ) (bytes : List ℕ) (status : ℕ) (text : List ℕ) : Type 0 where
  pub reading : Reading
  pub is : IsReadingOf bytes reading
  pub solved : IsSolveIn number depth budget jobs reading status text

-- what the bytes under the archive's name are solved to; where nothing stands there, status 4 and no text
abbrev pub IsSolveTo : ℕ → ℕ → ℕ → ℕ → Option (List ℕ) → ℕ → List ℕ → Type 0
IsSolveTo number depth budget jobs None status text = (status ≡ 4) × (text ≡ [])
IsSolveTo number depth budget jobs (Some bytes) status text = IsSolvedFrom number depth budget jobs bytes status text

-- one of these refusals
abbrev pub IsRefused : Refusal → ℕ → List ℕ → Type 0
IsRefused refusal status text = (status ≡ 3) × (text ≡ refusal_line refusal)

-- the tasks of a time of a timetable are too many, or the archive with the timetable that a matching of them leaves in
-- place of the solution, and the lines on it
abbrev pub IsMatched : Archive → ℕ → ℕ → ℕ → Parts → Plain → ℕ → List ℕ → Type 0
IsMatched a number time rtype p plain status text =
    ((n : ℕ) × AreTooMany p plain time rtype n × IsRefused (TooManyTasks n) status text)
    ⊎ ((status ≡ 0) × IsMatchText a number p plain time rtype text)

-- the time and the type are those of the instance, or the first that is not refuses the solution
abbrev pub IsMatchedAt : Archive → ℕ → ℕ → ℕ → Parts → Plain → ℕ → List ℕ → Type 0
IsMatchedAt a number time rtype p plain status text =
    ((length p.times ≤ time) × IsRefused NoSuchTime status text)
    ⊎ ((time < length p.times) × (p.types ≤ rtype) × IsRefused NoSuchType status text)
    ⊎ ((time < length p.times) × (rtype < p.types) × IsMatched a number time rtype p plain status text)

-- what comes of a start
abbrev pub IsMatchOf : Archive → ℕ → ℕ → ℕ → Start → ℕ → List ℕ → Type 0
IsMatchOf a number time rtype (barred refusal) status text = IsRefused refusal status text
IsMatchOf a number time rtype (begins p plain) status text = IsMatchedAt a number time rtype p plain status text

abbrev pub IsMatchIn : ℕ → ℕ → ℕ → Reading → ℕ → List ℕ → Type 0
IsMatchIn number time rtype (evaluable a r) status text =
    IsMatchOf a number time rtype (start_of a r number) status text
IsMatchIn number time rtype (refused refusal) status text = IsRefused refusal status text

-- a reading of the archive's bytes, and what comes of its solution with this number
pub record IsMatchedFrom (number time rtype : ℕ) (bytes : List ℕ) (status : ℕ) (text : List ℕ) : Type 0 where
  pub reading : Reading
  pub is : IsReadingOf bytes reading
  pub matched : IsMatchIn number time rtype reading status text

-- what the bytes under the archive's name are matched to; where nothing stands there, status 4 and no text
abbrev pub IsMatchTo : ℕ → ℕ → ℕ → Option (List ℕ) → ℕ → List ℕ → Type 0
IsMatchTo number time rtype None status text = (status ≡ 4) × (text ≡ [])
IsMatchTo number time rtype (Some bytes) status text = IsMatchedFrom number time rtype bytes status text

-- what comes of the instance with a number, if there is one: the archive whose only solution is a timetable that is
-- constructed of it, repaired or not, and the line or lines on it
abbrev pub IsConstructOf : Archive → Option (ℕ × ℕ) → Option Parts → ℕ → List ℕ → Type 0
IsConstructOf a chains None status text = (status ≡ 3) × (text ≡ refusal_line NoSuchInstance)
IsConstructOf a chains (Some p) status text = (status ≡ 0) × IsConstructText a p chains text

abbrev pub IsConstructIn : ℕ → Option (ℕ × ℕ) → Reading → ℕ → List ℕ → Type 0
IsConstructIn number chains (evaluable a r) status text =
    IsConstructOf a chains (slice_get r.instances number) status text
IsConstructIn number chains (refused refusal) status text = (status ≡ 3) × (text ≡ refusal_line refusal)

-- a reading of the archive's bytes, and what comes of its instance with this number
pub record IsConstructed (number : ℕ) (chains : Option (ℕ × ℕ)) (bytes : List ℕ) (status : ℕ) (text : List ℕ) : Type 0 where
  pub reading : Reading
  pub is : IsReadingOf bytes reading
  pub constructed : IsConstructIn number chains reading status text

-- what is constructed of the bytes under the archive's name; where nothing stands there, status 4 and no text
abbrev pub IsConstructTo : ℕ → Option (ℕ × ℕ) → Option (List ℕ) → ℕ → List ℕ → Type 0
IsConstructTo number chains None status text = (status ≡ 4) × (text ≡ [])
IsConstructTo number chains (Some bytes) status text = IsConstructed number chains bytes status text

-- the canonical spelling of the archive that is made
abbrev pub IsMadeTo : ℕ → ℕ → ℕ → List ℕ → Type 0
IsMadeTo seed size status text = (status ≡ 0) × (encode_utf8_all text ≡ canonical (made seed size))

-- the line on the run of the archive that is made, on its first solution: neither is ever refused
pub record IsRunTo (seed size : ℕ) (status : ℕ) (text : List ℕ) : Type 0 where
  pub instances : Resolved
  pub resolved_is : resolved (made seed size) ≡ Ok instances
  pub parts : Parts
  pub plain : Plain
  pub start_is : start_of (made seed size) instances 0 ≡ begins parts plain
  pub status_is : status ≡ 0
  pub line : IsRunLine seed size parts plain text

-- the outcome of what is asked for, and of words without a reading, by what stands under each name
abbrev pub IsOutcomeOf : Option Asked → (List ℕ → Option (List ℕ)) → ℕ → List ℕ → Type 0
IsOutcomeOf None under status text = (status ≡ 2) × (text ≡ not_understood_line)
IsOutcomeOf (Some (evaluating archive all)) under status text = IsAnswerTo all (under archive) status text
IsOutcomeOf (Some (scripting archive number script tied)) under status text =
    IsPlayTo tied number (under archive) (under script) status text
IsOutcomeOf (Some (checking archive)) under status text = IsSpellingTo (under archive) status text
IsOutcomeOf (Some (repairing archive number depth budget)) under status text =
    IsRepairTo number depth budget (under archive) status text
IsOutcomeOf (Some (solving archive number depth budget jobs)) under status text =
    IsSolveTo number depth budget jobs (under archive) status text
IsOutcomeOf (Some (matching archive number time rtype)) under status text =
    IsMatchTo number time rtype (under archive) status text
IsOutcomeOf (Some (constructing archive number chains)) under status text =
    IsConstructTo number chains (under archive) status text
IsOutcomeOf (Some (making seed size)) under status text = IsMadeTo seed size status text
IsOutcomeOf (Some (running seed size)) under status text = IsRunTo seed size status text

-- `khe` on these words, where these bytes stand under the names, ends with this status after this text
abbrev pub IsOutcome : List (List ℕ) → (List ℕ → Option (List ℕ)) → ℕ → List ℕ → Type 0
IsOutcome words under status text = IsOutcomeOf (asked words) under status text
