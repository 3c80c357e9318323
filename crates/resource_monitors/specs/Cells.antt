-- The kinds that are measured by how many tasks of a resource run at each time, and the counts that
-- they read: a row for each resource, with a count for each time.
use Rattle.std.specs.Prelude.{ℕ, ◌≡◌, ◌<◌, ◌+◌, ◌-◌, ◌==◌, ◌&&◌, ◌||◌, not, nat_le, nat_lt, Bool, true, false}
use Rattle.std.specs.Prelude.{if◌then◌else◌, Option, List, length, slice_get, slice_index, count_by}
use Rattle.std.specs.List.{range_with_len, list_any}
use Rattle.std.specs.Option.{option_map_or}
use Rattle.khe_base.specs.declared.numbers.ResourceId.{ResourceId}
use Rattle.khe_instance.specs.Deviation.{measured}
use Rattle.khe_instance.specs.KindLaws.{is_kind}
use Rattle.khe_instance.specs.Running.{is_resource}
use Rattle.khe_instance.specs.Watching.{lists_time}
use Rattle.khe_instance.specs.declared.parts.Parts.{Parts}
use Rattle.khe_instance.specs.declared.points.Monitor.{Monitor}
use Rattle.khe_instance.specs.declared.points.Point.{Point}
use Rattle.khe_instance.specs.declared.points.Point.TheVariants.{Resource}
use Rattle.khe_instance.specs.declared.rules.Kind.{Kind}
use Rattle.khe_instance.specs.declared.rules.Kind.TheVariants as kind
use Rattle.khe_instance.specs.declared.rules.Rule.{Rule}
use Rattle.timetables.specs.Counts.{row_of, count_at}
use Rattle.resource_monitors.specs.Posts.{AreSame}

abbrev pub is_at_cells : Kind → Bool
is_at_cells kind.AvoidClashes = true
is_at_cells kind.AvoidUnavailableTimes = true
is_at_cells kind.LimitIdleTimes = true
is_at_cells kind.ClusterBusyTimes = true
is_at_cells kind.LimitBusyTimes = true
is_at_cells _ = false

-- those of them that are measured by whether any of its tasks runs
abbrev pub is_by_busy : Kind → Bool
is_by_busy kind.AvoidUnavailableTimes = true
is_by_busy kind.LimitIdleTimes = true
is_by_busy kind.ClusterBusyTimes = true
is_by_busy kind.LimitBusyTimes = true
is_by_busy _ = false

-- a row of counts for each resource, with a count for each time
pub record HasRows (p : Parts) (rows : List (List ℕ)) : Type 0 where
  pub resources : length rows ≡ length p.resources
  pub times : (r : ℕ) → r < length p.resources → length (row_of rows r) ≡ length p.times

-- what a rule of such a kind measures at its resource, and a monitor
abbrev pub value_at : Parts → List (List ℕ) → Rule → Point → ℕ
value_at p rows rule (Resource r) = measured p rule (slice_index (row_of rows r.0)) 0
value_at p rows rule _ = 0

abbrev pub value_in : Parts → List (List ℕ) → Monitor → ℕ
value_in p rows m = option_map_or (λ c. value_at p rows c.rule m.point) (slice_get p.constraints m.constraint) 0

-- the kinds that list all times
abbrev pub lists_all : Kind → Bool
lists_all k = is_kind k kind.AvoidClashes

-- whether a time is one of a run
abbrev pub in_run : ℕ → ℕ → ℕ → Bool
in_run start end t = nat_le start t && nat_lt t end

-- whether a monitor lists a time, and one of a run
abbrev pub lists : Parts → Monitor → ℕ → Bool
lists p m t = option_map_or (λ c. lists_time c.rule t) (slice_get p.constraints m.constraint) false

abbrev pub lists_any : Parts → ℕ → ℕ → Monitor → Bool
lists_any p start end m = list_any (λ t. lists p m t) (range_with_len start (end - start))

-- a count above this was and is above 0, when it rises for one place or falls
abbrev pub limit_for : Bool → ℕ
limit_for true = 1
limit_for false = 0

-- whether one of a resource's counts in a run is no more than a limit
abbrev pub is_low : List (List ℕ) → ℕ → ℕ → ℕ → ℕ → Bool
is_low rows start end limit r = list_any (λ t. nat_le (count_at rows r t) limit) (range_with_len start (end - start))

-- whether what a kind measures at a resource may be another: where it measures by busy times alone,
-- only if one of the counts is low
abbrev pub may_differ : Kind → Bool → Bool
may_differ k low = not (is_by_busy k) || low

abbrev pub differs_at : Kind → List (List ℕ) → ℕ → ℕ → ℕ → Point → Bool
differs_at k rows start end limit (Resource r) = may_differ k (is_low rows start end limit r.0)
differs_at k rows start end limit _ = false

-- whether a monitor lists one of the times and may measure another value
abbrev pub is_due : Parts → List (List ℕ) → ℕ → ℕ → ℕ → Monitor → Bool
is_due p rows start end limit m = lists_any p start end m && differs_at m.kind rows start end limit m.point

-- the same, where it is known whether one of the counts is low
abbrev pub is_due_if : Parts → ℕ → ℕ → Bool → Monitor → Bool
is_due_if p start end low m = may_differ m.kind low && lists_any p start end m

-- how many places are given a resource
abbrev pub given_to : ℕ → List (Option ResourceId) → ℕ
given_to r given = count_by (is_resource r) given

-- the counts of one resource are above others by one in a run
pub record AreRaised (r start end : ℕ) (low high : List (List ℕ)) : Type 0 where
  pub resources : length high ≡ length low
  pub times : (q : ℕ) → length (row_of high q) ≡ length (row_of low q)
  pub counts : (q t : ℕ) → count_at high q t ≡ count_at low q t + (if (r == q) && in_run start end t then 1 else 0)

-- a served monitor that does not wait measures the same by both
abbrev pub AreMeasuredSame : Parts → (Kind → Bool) → (ℕ → Bool) → List (List ℕ) → List (List ℕ) → Type 0
AreMeasuredSame p served waits old new = AreSame p served waits (value_in p old) (value_in p new)

-- each count is above another by as many places as are given the resource, in a run
abbrev pub AreAbove : List (Option ResourceId) → ℕ → ℕ → (ℕ → ℕ → ℕ) → (ℕ → ℕ → ℕ) → Type 0
AreAbove given start end low high = (q t : ℕ)
    → high q t ≡ low q t + (if in_run start end t then given_to q given else 0)
