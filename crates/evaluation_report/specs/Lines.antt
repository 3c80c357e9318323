-- The lines of a report, as characters. Each ends with a line feed.
use Rattle.std.specs.Prelude.{ℕ, Bool, true, false, unwrap_or, List, [], ◌++◌, slice_get, codes}
use Rattle.std.specs.Fmt.{decimal}
use Rattle.std.specs.Option.{option_map_or}
use Rattle.khe_base.specs.declared.sums.Totals.{Totals}
use Rattle.khe_instance.specs.declared.parts.Parts.{Parts}
use Rattle.khe_instance.specs.declared.points.Monitor.{Monitor}
use Rattle.khe_instance.specs.declared.rules.Constraint.{Constraint}
use Rattle.evaluation_report.specs.Points.{point_text}
use Rattle.evaluation_report.specs.Words.{quoted, kind_name}
use Rattle.fault_tables.specs.Causes.{cause_name}

-- the first line: how many instances and solutions the archive has
abbrev pub header_line : ℕ → ℕ → List ℕ
header_line instances solutions =
    codes "archive instances " ++ decimal instances ++ codes " solutions " ++ decimal solutions ++ codes "\n"

-- the first line of a solution: its number, the Id of its group and the Id of its instance
abbrev pub solution_line : ℕ → List ℕ → List ℕ → List ℕ
solution_line number group instance =
    codes "solution " ++ decimal number ++ codes " group " ++ quoted group ++ codes " instance " ++ quoted instance
    ++ codes "\n"

-- the name of a cost: hard for a required constraint
abbrev pub hardness : Bool → List ℕ
hardness true = codes " hard "
hardness false = codes " soft "

-- what a detached monitor's line has at its end
abbrev pub detachment : Bool → List ℕ
detachment true = []
detachment false = codes " detached"

-- what a monitor's line begins with: its number, its kind, and the Id of its constraint
abbrev pub monitor_head : ℕ → Monitor → Constraint → List ℕ
monitor_head number m c = codes "monitor " ++ decimal number ++ codes " " ++ kind_name m.kind ++ codes " "
    ++ quoted c.id

-- what it ends with: the deviation, and the cost by whether the constraint is required
abbrev pub monitor_tail : Bool → ℕ → ℕ → Bool → List ℕ
monitor_tail required deviation cost attached =
    codes " deviation " ++ decimal deviation ++ hardness required ++ decimal cost ++ detachment attached ++ codes "\n"

-- the line of a monitor with its constraint
abbrev pub measured_line : Parts → ℕ → Monitor → Constraint → ℕ → ℕ → Bool → List ℕ
measured_line parts number m c deviation cost attached =
    monitor_head number m c ++ codes " " ++ point_text parts c.rule m.point
    ++ monitor_tail c.required deviation cost attached

-- the line of the monitor with a number, by its deviation, its cost and whether it is attached
abbrev pub monitor_line : Parts → ℕ → ℕ → ℕ → Bool → List ℕ
monitor_line parts number deviation cost attached =
    option_map_or (λ m. option_map_or (λ c. measured_line parts number m c deviation cost attached)
    (slice_get parts.constraints m.constraint) [])
    (slice_get parts.monitors number) []

-- the last line of a valid solution
abbrev pub total_line : Totals → List ℕ
total_line t = codes "total hard " ++ decimal t.hard ++ codes " soft " ++ decimal t.soft ++ codes "\n"

-- why and at which entry a solution is invalid: the cause's number, its name, and the entry
abbrev pub cause_at : ℕ → ℕ → List ℕ
cause_at cause entry =
    decimal cause ++ codes " " ++ unwrap_or (cause_name cause) [] ++ codes " entry " ++ decimal entry ++ codes "\n"

-- what an invalid solution has in place of monitors and a total
abbrev pub invalid_line : ℕ → ℕ → List ℕ
invalid_line cause entry = codes "invalid " ++ cause_at cause entry
