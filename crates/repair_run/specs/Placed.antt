-- An archive with a timetable in place of one of its solutions.
use Rattle.std.specs.Prelude.{ℕ, ◌≡◌, ◌<◌, ◌-◌, if◌then◌else◌, nat_lt, Some, List, [], ◌∷◌, length, slice_get}
use Rattle.std.specs.Prelude.{slice_set}
use Rattle.std.specs.List.{flat_map}
use Rattle.std.specs.Option.{option_map_or}
use Rattle.khe_instance.specs.declared.parts.Parts.{Parts}
use Rattle.khe_instance.specs.declared.states.Plain.{Plain}
use Rattle.xhstt_entries.specs.Spelled.{spelled}
use Rattle.xhstt_references.specs.References.{solutions_of}
use Rattle.xhstt_shape.specs.declared.records.Archive.{Archive}
use Rattle.xhstt_shape.specs.declared.records.RawSolution.{RawSolution}
use Rattle.xhstt_shape.specs.declared.records.SolutionGroup.{SolutionGroup}
use Rattle.repair_run.specs.declared.placing.Spot.{Spot}

-- a group with a solution in place of the one at this place
abbrev pub group_with : RawSolution → ℕ → SolutionGroup → SolutionGroup
group_with raw place g = record g { solutions = slice_set g.solutions place raw }

-- groups with a solution in place of the one with this number among all of them
unfoldable pub groups_with : RawSolution → ℕ → List SolutionGroup → List SolutionGroup
groups_with raw n [] = []
groups_with raw n (g ∷ gs) =
    if nat_lt n (length g.solutions) then group_with raw n g ∷ gs
    else g ∷ groups_with raw (n - length g.solutions) gs

-- an archive with a solution in place of the one with this number
abbrev pub archive_with : RawSolution → ℕ → Archive → Archive
archive_with raw n a = record a { solution_groups = groups_with raw n a.solution_groups }

-- an archive in which the entries of the solution with this number are those of this timetable
abbrev pub respelled : Archive → ℕ → Parts → Plain → Archive
respelled a n p s = option_map_or (λ old. archive_with (spelled p s old) n a) (slice_get (solutions_of a) n) a

-- where the solution with a number stands
pub record IsSpot (gs : List SolutionGroup) (n : ℕ) (s : Spot) : Type 0 where
  pub group : SolutionGroup
  pub there : slice_get gs s.group ≡ Some group
  pub within : s.place < length group.solutions
  pub found : slice_get (flat_map (λ g. g.solutions) gs) n ≡ slice_get group.solutions s.place
  pub with : (raw : RawSolution) → groups_with raw n gs ≡ slice_set gs s.group (group_with raw s.place group)
