-- What each slot counts for in the sum of a monitor at an event. A turn that leaves what a share is read from leaves
-- the sum.
use Rattle.std.specs.Prelude.{ℕ, ◌≡◌, ◌+◌, ◌*◌, if◌then◌else◌, Option, Some, None, List, slice_get}
use Rattle.std.specs.List.{sum_by}
use Rattle.std.specs.Option.{option_map, option_map_or}
use Rattle.khe_base.specs.declared.limits.TheConstants.{DURATION, NUMBER}
use Rattle.khe_base.specs.declared.numbers.ResourceId.{ResourceId}
use Rattle.khe_base.specs.declared.numbers.TimeId.{TimeId}
use Rattle.khe_instance.specs.Watching.{names_event}
use Rattle.khe_instance.specs.declared.parts.Parts.{Parts}
use Rattle.khe_instance.specs.declared.points.Monitor.{Monitor}
use Rattle.khe_instance.specs.declared.points.Point.{Point}
use Rattle.khe_instance.specs.declared.points.Point.TheVariants.{EventResource}
use Rattle.khe_instance.specs.declared.rules.Constraint.{Constraint}
use Rattle.khe_instance.specs.declared.rules.Rule.{Rule}
use Rattle.khe_told.specs.Turns.{SlotTurn, duration_of}
use Rattle.khe_told.specs.declared.slots.Slot.{Slot}
use Rattle.khe_told.specs.declared.slots.Span.{Span}

-- what the place of a point is given, by what all places are: None at an event
abbrev pub given_at : Point → List (Option ResourceId) → Option (Option ResourceId)
given_at (EventResource e place) given = slice_get given place
given_at _ given = None

-- what a slot counts for by its meet's start and duration, or by what a place is given and the
-- duration; nothing where it has no meet or no such place
abbrev pub span_share : (Option TimeId → ℕ → ℕ) → Option Span → ℕ
span_share f None = 0
span_share f (Some y) = f y.start y.duration

abbrev pub task_share : (Option ResourceId → ℕ → ℕ) → Option Span → Option (Option ResourceId) → ℕ
task_share f None given = 0
task_share f (Some y) None = 0
task_share f (Some y) (Some r) = f r y.duration

-- a turn of a slot keeps its meet, how long that is and what its places are given, and how long it is
abbrev pub KeepsMeet : SlotTurn → Type 0
KeepsMeet t = t.before.span ≡ t.after.span

abbrev pub KeepsTasks : SlotTurn → Type 0
KeepsTasks t = (t.before.given ≡ t.after.given) × (duration_of t.before ≡ duration_of t.after)

abbrev pub KeepsDuration : SlotTurn → Type 0
KeepsDuration t = duration_of t.before ≡ duration_of t.after

-- the most that a slot may count for, and all slots together
abbrev pub most_of : Option Span → ℕ
most_of span = option_map_or (λ (y : Span). y.duration + 1) span 0

abbrev pub greatest_total : ℕ
greatest_total = DURATION * (NUMBER + 1)

-- what a meet counts for is what both parts count for where it is cut
abbrev pub AddsUp : (Rule → Option Span → Option (Option ResourceId) → ℕ) → Type 0
AddsUp share = (rule : Rule) (cut rest : ℕ) (start : Option TimeId) (given : Option (Option ResourceId))
    → share rule (Some (record { duration = cut + rest; start = start })) given
    ≡ share rule (Some (record { duration = cut; start = start })) given
    + share rule (Some (record {
      duration = rest;
      start = option_map (λ (t : TimeId). record { 0 = t.0 + cut })
          start;
    }))
    given

-- a turn leaves what its slot counts for in the sum of a monitor that names its event
abbrev pub IsSameShare : (Rule → Option Span → Option (Option ResourceId) → ℕ) → Parts → Monitor → SlotTurn → Type 0
IsSameShare share p m t = (c : Constraint) → slice_get p.constraints m.constraint ≡ Some c
    → share c.rule t.after.span (given_at m.point t.after.given)
    ≡ share c.rule t.before.span (given_at m.point t.before.given)

-- the share of a slot in a monitor's sum, by the monitor's rule and point: none where it is another
-- event's
abbrev pub share_of : (Rule → Option Span → Option (Option ResourceId) → ℕ) → Parts → Rule → Point → Slot → ℕ
share_of share p rule point x = if names_event p rule point x.event.0 then share rule x.span (given_at point x.given)
    else 0

abbrev pub total_at : (Rule → Option Span → Option (Option ResourceId) → ℕ) → Parts → Rule → Point → List Slot → ℕ
total_at share p rule point s = sum_by (share_of share p rule point) s

-- a monitor's sum
abbrev pub total_of : (Rule → Option Span → Option (Option ResourceId) → ℕ) → Parts → Monitor → List Slot → ℕ
total_of share p m s = option_map_or (λ c. total_at share p c.rule m.point s) (slice_get p.constraints m.constraint) 0

-- what a monitor's rule makes of a sum
abbrev pub measured_by : (Rule → ℕ → ℕ) → Parts → Monitor → ℕ → ℕ
measured_by measured p m total = option_map_or (λ c. measured c.rule total) (slice_get p.constraints m.constraint) 0

-- a rule whose deviation is its sum
abbrev pub itself : Rule → ℕ → ℕ
itself rule total = total
