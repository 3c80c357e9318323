-- Monitors that have no move, whatever the timetable.
use Rattle.std.specs.Prelude.{ℕ, ◌≡◌, ◌⊎◌, true, false, List, []}
use Rattle.khe_instance.specs.Lookups.{place_at}
use Rattle.khe_instance.specs.declared.parts.Parts.{Parts}
use Rattle.khe_instance.specs.declared.points.Point.{Point}
use Rattle.khe_instance.specs.declared.points.Point.TheVariants.{Event, EventResource}
use Rattle.khe_told.specs.declared.slots.Slot.{Slot}
use Rattle.khe_solution.specs.Reading.{has_type, is_fixed_event, is_fixed_place}
use Rattle.repair_moves.specs.Moves.{moves}

-- the monitor with a number has no move in any timetable
abbrev pub IsStuck : Parts → ℕ → Type 0
IsStuck p n = (s : List Slot) → moves p s n ≡ []

-- the point is an event whose time is preassigned
abbrev pub HasFixedEvent : Parts → Point → Type 0
HasFixedEvent p (Event e) = is_fixed_event p e.0 ≡ true
HasFixedEvent p _ = ⊥

-- the resource of a place is preassigned, or no resource has its type
abbrev pub IsFixedPlace : Parts → ℕ → ℕ → Type 0
IsFixedPlace p e k = (is_fixed_place p e k ≡ true) ⊎ ((r : ℕ) → has_type p r (place_at p.events e k) ≡ false)

-- the point is such a place
abbrev pub HasFixedPlace : Parts → Point → Type 0
HasFixedPlace p (EventResource e k) = IsFixedPlace p e.0 k
HasFixedPlace p _ = ⊥
