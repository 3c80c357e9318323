-- The archive that is made from a seed and a size.
use Rattle.std.specs.Prelude.{ℕ, None, List, [], ◌∷◌, codes, map}
use Rattle.xhstt_shape.specs.declared.records.Archive.{Archive}
use Rattle.xhstt_shape.specs.declared.records.RawInstance.{RawInstance}
use Rattle.xhstt_shape.specs.declared.records.SolutionGroup.{SolutionGroup}
use Rattle.archive_generator.specs.declared.drawing.DrawnEntry.{DrawnEntry}
use Rattle.archive_generator.specs.declared.drawing.DrawnEvent.{DrawnEvent}
use Rattle.archive_generator.specs.declared.drawing.DrawnJob.{DrawnJob}
use Rattle.archive_generator.specs.Constraints.{constraints}
use Rattle.archive_generator.specs.Events.{event, event_groups}
use Rattle.archive_generator.specs.Job.{job}
use Rattle.archive_generator.specs.Names.{name}
use Rattle.archive_generator.specs.Resources.{resource_types, resource_groups, resources}
use Rattle.archive_generator.specs.Solutions.{solution}
use Rattle.archive_generator.specs.Times.{time_groups, times}

unfoldable pub instance : ℕ → List DrawnEvent → RawInstance
instance size events = record {
  id = name (codes "made");
  meta_data = None;
  time_groups = time_groups;
  times = times;
  resource_types = resource_types;
  resource_groups = resource_groups;
  resources = resources size;
  event_groups = event_groups size;
  events = map (event size) events;
  constraints = constraints size;
}

unfoldable pub solution_group : List (List DrawnEntry) → SolutionGroup
solution_group drawn = record { id = name (codes "g"); meta_data = None; solutions = map solution drawn }

-- the archive of what was drawn for a size
unfoldable pub archive : ℕ → DrawnJob → Archive
archive size drawn = record {
  id = None;
  meta_data = None;
  instances = instance size drawn.events ∷ [];
  solution_groups = solution_group drawn.solutions ∷ [];
}

-- the archive that is drawn from a state, and the state after its draws
unfoldable pub made : ℕ → ℕ → Archive
made seed size = archive size (job size seed).0

unfoldable pub state_after : ℕ → ℕ → ℕ
state_after seed size = (job size seed).1
