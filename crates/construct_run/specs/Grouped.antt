-- An archive whose only solution is a timetable.
use Rattle.std.specs.Prelude.{None, [], ◌∷◌, codes}
use Rattle.khe_instance.specs.declared.parts.Parts.{Parts}
use Rattle.khe_instance.specs.declared.states.Plain.{Plain}
use Rattle.xhstt_entries.specs.Spelled.{spelled, to}
use Rattle.xhstt_shape.specs.declared.records.Archive.{Archive}
use Rattle.xhstt_shape.specs.declared.records.RawSolution.{RawSolution}
use Rattle.xhstt_shape.specs.declared.records.SolutionGroup.{SolutionGroup}

-- a solution of an instance that says nothing
abbrev pub blank : Parts → RawSolution
blank p = record { reference = to p.id; description = None; running_time = None; events = [] }

-- the group with a timetable alone
abbrev pub group_of : Parts → Plain → SolutionGroup
group_of p s = record {
  id = record { text = codes "constructed"; at = 0 };
  meta_data = None;
  solutions = spelled p s (blank p) ∷ [];
}

-- an archive with this group in place of all its groups
abbrev pub grouped : Archive → Parts → Plain → Archive
grouped a p s = record a { solution_groups = group_of p s ∷ [] }
