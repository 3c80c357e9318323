-- The Ids of an archive's and an instance's parts, each list in the order of the text.
use Rattle.std.specs.Prelude.{ℕ, Bool, true, false, List, map}
use Rattle.std.specs.List.{filter}
use Rattle.xhstt_shape.specs.declared.records.Archive.{Archive}
use Rattle.xhstt_shape.specs.declared.records.GroupSort.{GroupSort}
use Rattle.xhstt_shape.specs.declared.records.GroupSort.TheVariants as grouped
use Rattle.xhstt_shape.specs.declared.records.RawInstance.{RawInstance}
use Rattle.xhstt_shape.specs.declared.records.TimeSort.{TimeSort}
use Rattle.xhstt_shape.specs.declared.records.TimeSort.TheVariants as timed

abbrev pub instance_ids : Archive → List (List ℕ)
instance_ids a = map (λ i. i.id.text) a.instances

abbrev pub time_group_ids : RawInstance → List (List ℕ)
time_group_ids i = map (λ g. g.id.text) i.time_groups

abbrev pub is_week : TimeSort → Bool
is_week timed.Week = true
is_week _ = false

abbrev pub is_day : TimeSort → Bool
is_day timed.Day = true
is_day _ = false

abbrev pub week_ids : RawInstance → List (List ℕ)
week_ids i = map (λ g. g.id.text) (filter (λ g. is_week g.sort) i.time_groups)

abbrev pub day_ids : RawInstance → List (List ℕ)
day_ids i = map (λ g. g.id.text) (filter (λ g. is_day g.sort) i.time_groups)

abbrev pub time_ids : RawInstance → List (List ℕ)
time_ids i = map (λ t. t.id.text) i.times

abbrev pub resource_type_ids : RawInstance → List (List ℕ)
resource_type_ids i = map (λ t. t.id.text) i.resource_types

abbrev pub resource_group_ids : RawInstance → List (List ℕ)
resource_group_ids i = map (λ g. g.id.text) i.resource_groups

abbrev pub resource_ids : RawInstance → List (List ℕ)
resource_ids i = map (λ r. r.id.text) i.resources

abbrev pub event_group_ids : RawInstance → List (List ℕ)
event_group_ids i = map (λ g. g.id.text) i.event_groups

abbrev pub is_course : GroupSort → Bool
is_course grouped.Course = true
is_course _ = false

abbrev pub course_ids : RawInstance → List (List ℕ)
course_ids i = map (λ g. g.id.text) (filter (λ g. is_course g.sort) i.event_groups)

abbrev pub event_ids : RawInstance → List (List ℕ)
event_ids i = map (λ e. e.id.text) i.events
