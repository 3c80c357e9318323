-- An event without a preassigned time is cut into the least number of meets with which durations can keep the bounds
-- of all its Split Events constraints, the longer first; where there is none it stays whole.
use Rattle.std.specs.Prelude.{ℕ, ◌+◌, ◌*◌, ◌/◌, ◌%◌, ◌==◌, Bool, false, ◌&&◌, nat_le, nat_lt, min, max, if◌then◌else◌}
use Rattle.std.specs.Prelude.{◌≤◌, Option, Some, None, is_some, List, map, slice_get, length, All}
use Rattle.std.specs.List.{filter_map, find, fold, range_with_len}
use Rattle.std.specs.Option.{option_and_then, unwrap_or}
use Rattle.construct.specs.declared.bounds.Bounds.{Bounds}
use Rattle.khe_instance.specs.declared.parts.EventInfo.{EventInfo}
use Rattle.khe_instance.specs.declared.parts.Parts.{Parts}
use Rattle.khe_instance.specs.declared.points.Monitor.{Monitor}
use Rattle.khe_instance.specs.declared.points.Point.{Point}
use Rattle.khe_instance.specs.declared.points.Point.TheVariants.{Event}
use Rattle.khe_instance.specs.declared.rules.Constraint.{Constraint}
use Rattle.khe_instance.specs.declared.rules.Rule.{Rule}
use Rattle.khe_instance.specs.declared.rules.Rule.TheVariants.{SplitEvents}

-- the bounds of a Split Events constraint
unfoldable pub bounds_in : Rule → Option Bounds
bounds_in (SplitEvents a b c d) =
    Some (record { min_duration = a; max_duration = b; min_amount = c; max_amount = d })
bounds_in _ = None

-- whether a point is this event
abbrev pub is_event : ℕ → Point → Bool
is_event e (Event own) = own.0 == e
is_event e _ = false

-- the bounds that a monitor sets to the meets of an event, if it sets any
unfoldable pub set_by : Parts → ℕ → Monitor → Option Bounds
set_by p e m =
    if is_event e m.point then option_and_then (λ (c : Constraint). bounds_in c.rule) (slice_get p.constraints
    m.constraint) else None

-- bounds that keep both
unfoldable pub narrowed : Bounds → Bounds → Bounds
narrowed x y = record {
  min_duration = max x.min_duration y.min_duration;
  max_duration = min x.max_duration y.max_duration;
  min_amount = max x.min_amount y.min_amount;
  max_amount = min x.max_amount y.max_amount;
}

-- the bounds that any meets of an event with this duration keep
unfoldable pub widest : ℕ → Bounds
widest d = record { min_duration = 1; max_duration = d; min_amount = 1; max_amount = d }

-- the bounds to the meets of an event: those of all Split Events constraints that it is a point of
unfoldable pub bounds_of : Parts → ℕ → ℕ → Bounds
bounds_of p e d = fold narrowed (widest d) (filter_map (set_by p e) p.monitors)

-- whether a duration may be cut into n meets
unfoldable pub allows : Bounds → ℕ → ℕ → Bool
allows b d n = nat_le b.min_amount n && nat_le n b.max_amount
    && (nat_le (n * b.min_duration) d && nat_le d (n * b.max_duration))

-- the least number of meets that may be cut of a duration, and 1 where there is none
unfoldable pub least_amount : Bounds → ℕ → ℕ
least_amount b d = unwrap_or (find (allows b d) (range_with_len 1 d)) 1

-- how many meets an event has at first: one with a preassigned time is not cut
unfoldable pub amount_of : Parts → ℕ → EventInfo → ℕ
amount_of p e event = if is_some event.fixed then 1 else least_amount (bounds_of p e event.duration) event.duration

-- how long the meet with a number is, where a duration is divided among n: the first ones last one time more,
-- where there is a remainder
unfoldable pub part : ℕ → ℕ → ℕ → ℕ
part d n k = d / n + (if nat_lt k (d % n) then 1 else 0)

-- the durations of the n meets into which a duration is cut
unfoldable pub parts : ℕ → ℕ → List ℕ
parts d n = map (part d n) (range_with_len 0 n)

-- meets of these durations keep bounds
pub record Keeps (b : Bounds) (ds : List ℕ) : Type 0 where
  pub least : b.min_amount ≤ length ds
  pub most : length ds ≤ b.max_amount
  pub each : All (λ d. (b.min_duration ≤ d) × (d ≤ b.max_duration)) ds
