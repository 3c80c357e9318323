-- The report of an archive: the header, and for each solution its lines.
use Rattle.std.specs.Prelude.{ℕ, ◌==◌, Bool, not, ◌&&◌, if◌then◌else◌, Result, Ok, Err, List, [], ◌∷◌, ◌++◌, length}
use Rattle.std.specs.Prelude.{map}
use Rattle.std.specs.Prelude.{◌+◌, slice_get}
use Rattle.std.specs.List.{flat_map, enumerate_from}
use Rattle.std.specs.Option.{option_map_or}
use Rattle.evaluation_report.specs.Lines.{header_line, solution_line, monitor_line, total_line, invalid_line}
use Rattle.khe_instance.specs.Evaluated.{deviation_in, cost_in, is_detached, totals}
use Rattle.khe_instance.specs.declared.parts.Parts.{Parts}
use Rattle.khe_instance.specs.declared.points.Monitor.{Monitor}
use Rattle.khe_instance.specs.declared.states.Plain.{Plain}
use Rattle.parallel_solve.specs.Batches.{rows_from}
use Rattle.parallel_solve.specs.Verdicts.{parts_at}
use Rattle.xhstt_completion.specs.Completed.{completed}
use Rattle.xhstt_completion.specs.declared.faults.Cause.{Cause}
use Rattle.xhstt_references.specs.References.{solutions_of}
use Rattle.xhstt_resolve.specs.declared.resolving.Resolved.{Resolved}
use Rattle.xhstt_shape.specs.declared.records.Archive.{Archive}
use Rattle.xhstt_shape.specs.declared.records.RawSolution.{RawSolution}
use Rattle.xhstt_shape.specs.declared.records.SolutionGroup.{SolutionGroup}

-- the line of a monitor with its number: left out where its deviation is 0, unless all are wanted
abbrev pub monitor_text : Bool → Parts → Plain → ℕ × Monitor → List ℕ
monitor_text all p s (number, m) =
    if not all && deviation_in p s m == 0 then []
    else monitor_line p number (deviation_in p s m) (cost_in p s (number, m)) (not (is_detached s number))

-- the lines of a timetable's monitors, and its totals
abbrev pub evaluation : Bool → Parts → Plain → List ℕ
evaluation all p s = flat_map (monitor_text all p s) (enumerate_from 0 p.monitors) ++ total_line (totals p s)

-- what comes of a solution: it is evaluated, or invalid for a cause
abbrev pub outcome_text : Bool → Parts → Result Plain Cause → List ℕ
outcome_text all p (Ok s) = evaluation all p s
outcome_text all p (Err cause) = invalid_line cause.cause cause.entry

-- a solution with its number and the Id of its group, of an instance with these parts
abbrev pub solution_text : Bool → ℕ → List ℕ → RawSolution → Parts → List ℕ
solution_text all number group raw p = solution_line number group p.id ++ outcome_text all p (completed p raw)

abbrev pub numbered_text : Bool → Resolved → List ℕ → ℕ × RawSolution → List ℕ
numbered_text all r group (number, raw) = option_map_or (solution_text all number group raw) (parts_at r number) []

-- the solutions of a group, numbered on from this number
abbrev pub group_text : Bool → Resolved → ℕ → SolutionGroup → List ℕ
group_text all r number g = flat_map (numbered_text all r g.id.text) (enumerate_from number g.solutions)

-- the solutions of groups
abbrev pub groups_text : Bool → Resolved → ℕ → List SolutionGroup → List ℕ
groups_text all r number [] = []
groups_text all r number (g ∷ gs) =
    group_text all r number g ++ groups_text all r (number + length g.solutions) gs

-- the part of a report on the solution with this number, with the Id of its group among those of all solutions
abbrev pub row_text : Bool → Resolved → List (List ℕ) → ℕ × RawSolution → List ℕ
row_text all r groups (number, raw) =
    option_map_or (λ g. numbered_text all r g (number, raw)) (slice_get groups number) []

-- of all solutions, those from this number on
abbrev pub left_text : Bool → Resolved → List (List ℕ) → ℕ → List RawSolution → List ℕ
left_text all r groups number raws = flat_map (row_text all r groups) (rows_from number raws)

-- the Id of the group of each solution
abbrev pub group_ids : List SolutionGroup → List (List ℕ)
group_ids = flat_map (λ g. map (λ _. g.id.text) g.solutions)

-- the whole report
abbrev pub report : Bool → Archive → Resolved → List ℕ
report all a r = header_line (length r.instances) (length (solutions_of a)) ++ groups_text all r 0 a.solution_groups
