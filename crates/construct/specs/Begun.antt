-- The timetable that a construction begins with: each event is cut, and only what is preassigned is there.
use Rattle.std.specs.Prelude.{ℕ, ◌+◌, nat_lt, if◌then◌else◌, Some, List, [], ◌∷◌, ◌++◌, map}
use Rattle.std.specs.List.{range_with_len}
use Rattle.construct.specs.Cuts.{amount_of, part}
use Rattle.khe_instance.specs.declared.parts.EventInfo.{EventInfo}
use Rattle.khe_instance.specs.declared.parts.Parts.{Parts}
use Rattle.khe_instance.specs.declared.parts.Place.{Place}
use Rattle.khe_instance.specs.declared.states.Plain.{Plain}
use Rattle.khe_told.specs.Lists.{meets_in, tasks_in}
use Rattle.khe_told.specs.Slots.{empty_slot}
use Rattle.khe_told.specs.declared.slots.Slot.{Slot}

-- a slot of an event with a meet of this duration
abbrev pub cut_slot : ℕ → ℕ → EventInfo → ℕ → Slot
cut_slot m e event d = record {
  meet = record { 0 = m };
  event = record { 0 = e };
  span = Some (record { duration = d; start = event.fixed });
  given =
      map (λ (place : Place). place.fixed) event.places;
}

-- a slot of an event that is cut into a number of meets, by its place among the event's slots
unfoldable pub begun_slot : ℕ → EventInfo → ℕ → ℕ → Slot
begun_slot e event n k =
    if nat_lt k n then cut_slot (event.first_meet + k) e event (part event.duration n k)
    else empty_slot (event.first_meet + k) e event

abbrev pub begun_of : ℕ → EventInfo → ℕ → List Slot
begun_of e event n = map (begun_slot e event n) (range_with_len 0 event.duration)

-- the slots of events that are numbered on from this number
abbrev pub begun_from : Parts → ℕ → List EventInfo → List Slot
begun_from p e [] = []
begun_from p e (event ∷ events) = begun_of e event (amount_of p e event) ++ begun_from p (e + 1) events

unfoldable pub begun_slots : Parts → List Slot
begun_slots p = begun_from p 0 p.events

-- the timetable of these slots: all monitors are attached, and there are no groups
unfoldable pub begun : Parts → Plain
begun p = record { meets = meets_in (begun_slots p); tasks = tasks_in (begun_slots p); detached = []; groups = [] }
