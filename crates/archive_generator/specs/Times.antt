-- The times of a job: five days of eight times each, and the group of their first times.
use Rattle.std.specs.Prelude.{ℕ, ◌/◌, ◌%◌, ◌==◌, Some, None, List, [], ◌∷◌, ◌++◌, codes, map, if◌then◌else◌}
use Rattle.xhstt_shape.specs.declared.records.Ref.{Ref}
use Rattle.xhstt_shape.specs.declared.records.Time.{Time}
use Rattle.xhstt_shape.specs.declared.records.TimeGroup.{TimeGroup}
use Rattle.xhstt_shape.specs.declared.records.TimeSort.{TimeSort}
use Rattle.xhstt_shape.specs.declared.records.TimeSort.TheVariants as time_sort
use Rattle.archive_generator.specs.Names.{name, to, numbered, below, to_each}

abbrev pub time_group : TimeSort → List ℕ → TimeGroup
time_group sort id = record { sort = sort; id = name id; name = [] }

abbrev pub day : ℕ → TimeGroup
day n = time_group time_sort.Day (numbered (codes "d") n)

abbrev pub early : TimeGroup
early = time_group time_sort.Group (codes "early")

unfoldable pub time_groups : List TimeGroup
time_groups = map day (below 5) ++ early ∷ []

-- the groups that a time is in, besides its day
abbrev pub groups_of : ℕ → List Ref
groups_of n = if n % 8 == 0 then to (codes "early") ∷ [] else []

abbrev pub time : ℕ → Time
time n = record {
  id = name (numbered (codes "t") n);
  name = [];
  week = None;
  day = Some (to (numbered (codes "d") (n / 8)));
  time_groups = groups_of n;
}

unfoldable pub times : List Time
times = map time (below 40)

-- references to the days
unfoldable pub days : List Ref
days = to_each (codes "d") 5
