-- How many meets of each event of a monitor's group run at each time.
use Rattle.std.specs.Prelude.{ℕ, ◌≡◌, ◌<◌, ◌==◌, ◌&&◌, Bool, false, Option, Some, List, [], length, slice_get, count_by}
use Rattle.std.specs.Option.{option_map_or}
use Rattle.khe_base.specs.IdSet.{members_of}
use Rattle.khe_instance.specs.Running.{covers}
use Rattle.khe_instance.specs.declared.parts.GroupInfo.{GroupInfo}
use Rattle.khe_instance.specs.declared.parts.Parts.{Parts}
use Rattle.khe_instance.specs.declared.points.Point.{Point}
use Rattle.khe_instance.specs.declared.points.Point.TheVariants.{EventGroup}
use Rattle.khe_told.specs.declared.slots.Slot.{Slot}
use Rattle.khe_told.specs.declared.slots.Span.{Span}
use Rattle.timetables.specs.Counts.{count_at}

-- the events of the group that a point is
abbrev pub members_at : Parts → Point → List ℕ
members_at p (EventGroup g) = option_map_or (λ (x : GroupInfo). members_of x.events) (slice_get p.groups g) []
members_at p _ = []

-- whether a meet runs at a time, and whether a slot's does
abbrev pub runs_in : Option Span → ℕ → Bool
runs_in span t = option_map_or (λ (y : Span). covers y.duration y.start t) span false

abbrev pub slot_runs : Slot → ℕ → Bool
slot_runs x t = runs_in x.span t

-- how many meets of an event run at a time
abbrev pub meets_at : List Slot → ℕ → ℕ → ℕ
meets_at s e t = count_by (λ x. (x.event.0 == e) && slot_runs x t) s

-- the rows are those of the events of a point's group, over all times
pub record AreOfGroup (p : Parts) (point : Point) (s : List Slot) (rows : List (List ℕ)) (times : ℕ) : Type 0 where
  pub amount : length rows ≡ length (members_at p point)
  pub all : times ≡ length p.times
  pub cells : (i e t : ℕ) → slice_get (members_at p point) i ≡ Some e → count_at rows i t ≡ meets_at s e t

-- numbers that ascend
abbrev pub AreAscending : List ℕ → Type 0
AreAscending xs = (j k a b : ℕ) → j < k → slice_get xs j ≡ Some a → slice_get xs k ≡ Some b → a < b
