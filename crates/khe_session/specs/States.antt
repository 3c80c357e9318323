-- What a session stands for: the archive without the solution's timetable, the instance, a play, and how many lines
-- were answered. It stands for nothing once memory was refused.
use Rattle.std.specs.Prelude.{ℕ, ◌≡◌, ◌+◌, ◌-◌, ◌^◌, Option, None, Some, List, [], ◌∷◌, slice_get}
use Rattle.std.specs.Option.{option_map, option_and_then}
use Rattle.khe_base.specs.declared.sums.Totals.{Totals}
use Rattle.khe_engine.specs.Resting.{FitsIn, world_of}
use Rattle.khe_engine.specs.Values.{costs, totals}
use Rattle.khe_instance.specs.declared.parts.Parts.{Parts}
use Rattle.khe_instance.specs.declared.states.Plain.{Plain}
use Rattle.khe_told.specs.declared.slots.Slot.{Slot}
use Rattle.repair_run.specs.Placed.{respelled}
use Rattle.script_run.specs.Plays.{Play, play_of}
use Rattle.talk_run.specs.Answers.{answered, archive_bytes, turned}
use Rattle.talk_run.specs.Lines.{talk_reading}
use Rattle.xhstt_shape.specs.declared.records.Archive.{Archive}
use Rattle.khe_session.specs.declared.resting.Kept.{Kept}

-- an archive without a timetable in place of its solution with a number: of whatever timetable takes that place next
-- the same comes as of the archive itself
abbrev pub nothing : Plain
nothing = record { meets = []; tasks = []; detached = []; groups = [] }

abbrev pub blank : Archive → ℕ → Parts → Archive
blank a number p = respelled a number p nothing

-- the archive without a timetable in place of the solution, the number of the solution over all groups, the instance,
-- the state with the marks, and how many lines were answered
pub record SessionState : Type 0 where
  pub archive : Archive
  pub solution : ℕ
  pub parts : Parts
  pub play : Play
  pub lines : ℕ

-- what a line makes of it, and the bytes of its answer: those of a talk, whose lines are numbered from 1
abbrev pub lined : SessionState → List ℕ → SessionState
lined s line = record s { play = turned s.parts s.play (talk_reading line); lines = s.lines + 1 }

abbrev pub answer_to : SessionState → List ℕ → List ℕ
answer_to s line =
    answered (archive_bytes s.archive s.solution s.parts) s.parts s.play (s.lines + 1) (talk_reading line)

-- the answers to lines, one after the other
abbrev pub answers_to : SessionState → List (List ℕ) → List (List ℕ)
answers_to s [] = []
answers_to s (line ∷ more) = answer_to s line ∷ answers_to (lined s line) more

-- a line was carried out and answered; a spent session answers none
abbrev pub IsLined : List ℕ → Option SessionState → Option SessionState → List ℕ → Type 0
IsLined line None after answer = ⊥
IsLined line (Some s) after answer = (after ≡ Some (lined s line)) × (answer ≡ answer_to s line)

-- no line is answered any more
abbrev pub IsSpent : Option SessionState → Type 0
IsSpent None = Unit {0}
IsSpent (Some s) = s.lines ≡ 2 ^ 64 - 1

-- what the timetable costs, and what a monitor with a number does
abbrev pub totals_of : Option SessionState → Option Totals
totals_of o = option_map (λ (s : SessionState). totals s.parts s.play.state) o

abbrev pub cost_of : Option SessionState → ℕ → Option ℕ
cost_of o monitor = option_and_then (λ (s : SessionState). slice_get (costs s.parts s.play.state) monitor) o

-- the state of a session, by its instance, the number of its solution and what it keeps at rest
abbrev pub state_in : {Fam : Type 0} → Parts → ℕ → ℕ → Option (Kept Fam) → Option SessionState
state_in p number lines None = None
state_in p number lines (Some k) = Some (record {
  archive = blank k.archive number p;
  solution = number;
  parts = p;
  play = play_of (world_of p k.rest);
  lines = lines;
})

-- what it keeps is an engine of its instance
abbrev pub IsAtRest : {Fam : Type 0} → (Fam → Parts → Type 0) → (Fam → List Slot) → Parts → Option (Kept Fam) → Type 0
IsAtRest IsOf told p None = Unit {0}
IsAtRest IsOf told p (Some k) = FitsIn IsOf told p k.rest
