-- The events of a job, in one group with all of them and in a group with the next one.
use Rattle.std.specs.Prelude.{ℕ, ◌+◌, ◌-◌, ◌/◌, ◌%◌, Some, None, List, [], ◌∷◌, ◌++◌, codes, map}
use Rattle.xhstt_shape.specs.declared.records.EventGroup.{EventGroup}
use Rattle.xhstt_shape.specs.declared.records.GroupSort.TheVariants as group_sort
use Rattle.xhstt_shape.specs.declared.records.RawEvent.{RawEvent}
use Rattle.xhstt_shape.specs.declared.records.RawEventResource.{RawEventResource}
use Rattle.xhstt_shape.specs.declared.records.Ref.{Ref}
use Rattle.archive_generator.specs.declared.drawing.DrawnEvent.{DrawnEvent}
use Rattle.archive_generator.specs.Job.{classes}
use Rattle.archive_generator.specs.Names.{name, to, numbered, below, to_time}

abbrev pub event_group : List ℕ → EventGroup
event_group id = record { sort = group_sort.Group; id = name id; name = [] }

-- how many groups of two events, or of the last one, there are
abbrev pub halves : ℕ → ℕ
halves size = (size - 1) / 2 + 1

abbrev pub half : ℕ → EventGroup
half n = event_group (numbered (codes "h") n)

abbrev pub all : EventGroup
all = event_group (codes "all")

unfoldable pub event_groups : ℕ → List EventGroup
event_groups size = all ∷ [] ++ map half (below (halves size))

-- a place for a resource of a type, with a role
abbrev pub open_place : List ℕ → List ℕ → RawEventResource
open_place role type_id = record {
  reference = None;
  role = Some (name role);
  resource_type = Some (to type_id);
  workload = None;
}

-- the preassigned class of an event
abbrev pub class_place : ℕ → ℕ → RawEventResource
class_place size n = record {
  reference = Some (to (numbered (codes "c") (n % classes size)));
  role = None;
  resource_type = None;
  workload = None;
}

unfoldable pub places : ℕ → ℕ → List RawEventResource
places size n =
    class_place size n ∷ (open_place (codes "T") (codes "Teacher") ∷ (open_place (codes "R") (codes "Room") ∷ []))

-- its groups
abbrev pub groups_of : ℕ → List Ref
groups_of n = to (codes "all") ∷ (to (numbered (codes "h") (n / 2)) ∷ [])

unfoldable pub event : ℕ → DrawnEvent → RawEvent
event size e = record {
  id = name (numbered (codes "e") e.number);
  color = None;
  name = [];
  duration = e.duration;
  workload = None;
  course = None;
  time = to_time e.time;
  resources = places size e.number;
  resource_groups = [];
  event_groups = groups_of e.number;
}
