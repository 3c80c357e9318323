-- The lines that answer what was asked of a timetable, as characters. Each ends with a line feed.
use Rattle.std.specs.Prelude.{ℕ, Option, Some, None, List, ◌++◌, codes}
use Rattle.std.specs.Fmt.{decimal}
use Rattle.std.specs.Option.{option_map}
use Rattle.khe_base.specs.declared.sums.Totals.{Totals}
use Rattle.khe_instance.specs.declared.parts.Parts.{Parts}
use Rattle.khe_instance.specs.declared.states.Meet.{Meet}
use Rattle.khe_instance.specs.declared.states.Task.{Task}
use Rattle.khe_told.specs.Refusals.{row_of}
use Rattle.khe_told.specs.declared.refusals.Refusal.{Refusal}
use Rattle.evaluation_report.specs.Points.{event_text}

-- the line of a group of monitors, by its number and what its children cost together
abbrev pub group_line : ℕ → Totals → List ℕ
group_line number t = codes "group " ++ decimal number ++ codes " hard " ++ decimal t.hard ++ codes " soft "
    ++ decimal t.soft ++ codes "\n"

-- a number, or a dash where there is none
abbrev pub number_or_dash : Option ℕ → List ℕ
number_or_dash None = codes "-"
number_or_dash (Some number) = decimal number

-- what a meet's line ends with: its duration and its start
abbrev pub span_text : ℕ → Option ℕ → List ℕ
span_text duration start = codes " duration " ++ decimal duration ++ codes " time " ++ number_or_dash start
    ++ codes "\n"

-- the line of a meet
abbrev pub meet_line : Parts → Meet → List ℕ
meet_line parts m = codes "meet " ++ decimal m.meet.0 ++ codes " " ++ event_text parts m.event.0
    ++ span_text m.duration (option_map (λ time. time.0) m.start)

-- the line of a task
abbrev pub task_line : Task → List ℕ
task_line t =
    codes "task " ++ decimal t.task.meet.0 ++ codes " " ++ decimal t.task.place ++ codes " resource "
    ++ number_or_dash (option_map (λ resource. resource.0) t.resource) ++ codes "\n"

-- the answer to what was done, with the number of the meet or the group that was made
abbrev pub ok_line : Option ℕ → List ℕ
ok_line None = codes "ok\n"
ok_line (Some made) = codes "ok " ++ decimal made ++ codes "\n"

-- the answer to what is refused
abbrev pub refused_line : Refusal → List ℕ
refused_line refusal = codes "refused " ++ decimal (row_of refusal).0 ++ codes " " ++ (row_of refusal).1 ++ codes "\n"
