-- The line on a run, by the commands drawn and the state that they leave.
use Rattle.std.specs.Prelude.{ℕ, ◌≡◌, ◌≤◌, ◌<◌, ◌^◌, List}
use Rattle.archive_generator.specs.Job.{slots}
use Rattle.khe_engine.specs.Openings.{IsStateOf}
use Rattle.khe_engine.specs.States.{State}
use Rattle.khe_instance.specs.declared.parts.Parts.{Parts}
use Rattle.khe_instance.specs.declared.states.Plain.{Plain}
use Rattle.made_run.specs.Commands.{commands}
use Rattle.made_run.specs.Courses.{course, started}
use Rattle.made_run.specs.Lines.{made_line}
use Rattle.made_run.specs.declared.running.Job.{Job}

-- a job has as many meet slots as its events run for, and at least one; and it is not too large to count
-- its edits
pub record IsJob (j : Job) : Type 0 where
  pub small : j.size < 2 ^ 28
  pub counted : j.slots ≡ slots j.seed j.size
  pub some : 1 ≤ j.slots

-- the line on the run of the commands of a seed and a size, which begins with the state that a timetable
-- lists
pub record IsRunLine (seed size : ℕ) (p : Parts) (plain : Plain) (line : List ℕ) : Type 0 where
  pub state : State
  pub is : IsStateOf p plain state
  pub line_is : line ≡ made_line seed size p (course p (started state) (commands seed size))
