-- The edits and marks of a run, drawn after the archive of its job.
use Rattle.std.specs.Prelude.{ℕ, ◌+◌, ◌*◌, ◌%◌, ◌==◌, nat_lt, List, [], ◌∷◌, ◌++◌, if◌then◌else◌}
use Rattle.edit_script.specs.declared.commands.Command.{Command}
use Rattle.edit_script.specs.declared.commands.Command.TheVariants as command
use Rattle.archive_generator.specs.Draws.{next, drawn}
use Rattle.archive_generator.specs.Job.{resource_count, slots}
use Rattle.archive_generator.specs.Made.{state_after}
use Rattle.archive_generator.specs.Names.{below}
use Rattle.archive_generator.specs.Turns.{gathered}
use Rattle.khe_base.specs.declared.numbers.MeetId.{MeetId}
use Rattle.khe_base.specs.declared.numbers.ResourceId.{ResourceId}
use Rattle.khe_base.specs.declared.numbers.TaskId.{TaskId}
use Rattle.khe_base.specs.declared.numbers.TimeId.{TimeId}
use Rattle.khe_told.specs.declared.edits.Edit.{Edit}
use Rattle.khe_told.specs.declared.edits.Edit.TheVariants.{Assign, MoveTo, Give, Regive}

-- a meet is assigned to one of the 40 times, or moved to it
abbrev pub timed : ℕ → MeetId → TimeId → Edit
timed sort meet time = if sort == 0 then Assign meet time else MoveTo meet time

unfoldable pub time_edit : ℕ → ℕ → ℕ → Edit × ℕ
time_edit sort meet x = (timed sort (record { 0 = meet }) (record { 0 = drawn 40 x }), next x)

-- a task of a meet, not that of its class, is given a resource, or another one
abbrev pub staffed : ℕ → TaskId → ResourceId → Edit
staffed sort task resource = if sort == 2 then Give task resource else Regive task resource

unfoldable pub task_edit : ℕ → ℕ → ℕ → ℕ → Edit × ℕ
task_edit size sort meet x = (
  staffed sort (record { meet = record { 0 = meet }; place = 1 + drawn 2 x })
      (record { 0 = drawn (resource_count size) (next x) }),
  next (next x),
)

-- an edit of a job, by its size and how many meet slots its events have: its sort, its meet and the rest
unfoldable pub edit : ℕ → ℕ → ℕ → Edit × ℕ
edit size count x =
    let sort = drawn 4 x in
    let meet = drawn count (next x) in
    if nat_lt sort 2 then time_edit sort meet (next (next x)) else task_edit size sort meet (next (next x))

-- a mark is begun before each tenth edit, the first among them; all since it is undone after the tenth of
-- twenty edits, and it is ended after ten
abbrev pub begins : ℕ → List Command
begins n = if n % 10 == 0 then command.Begin ∷ [] else []

abbrev pub undoes : ℕ → List Command
undoes n = if n % 20 == 9 then command.Undo ∷ [] else []

abbrev pub ends : ℕ → List Command
ends n = if n % 10 == 9 then command.End ∷ [] else []

-- the edit with a number, with the marks before and after it
abbrev pub around : ℕ → Edit → List Command
around n e = begins n ++ (command.Edit e ∷ (undoes n ++ ends n))

unfoldable pub step : ℕ → ℕ → ℕ → ℕ → List Command × ℕ
step size count n x = let e = edit size count x in (around n e.0, e.1)

-- those of ten edits an event
unfoldable pub drawn_commands : ℕ → ℕ → ℕ → List Command
drawn_commands size count x = (gathered (step size count) (below (10 * size)) x).0

-- those of the job of a seed and a size
unfoldable pub commands : ℕ → ℕ → List Command
commands seed size = drawn_commands size (slots seed size) (state_after seed size)
