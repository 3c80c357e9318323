-- Meets and tasks that are alike: what is refused of one is refused of the other.
use Rattle.std.specs.Prelude.{ℕ, ◌≡◌, ◌≤◌, true, false, Some, is_none, List}
use Rattle.khe_base.specs.declared.numbers.TaskId.{TaskId}
use Rattle.khe_base.specs.declared.numbers.TimeId.{TimeId}
use Rattle.khe_instance.specs.Lookups.{place_at}
use Rattle.khe_instance.specs.declared.parts.Parts.{Parts}
use Rattle.khe_instance.specs.declared.parts.Place.{Place}
use Rattle.khe_instance.specs.declared.states.Meet.{Meet}
use Rattle.khe_told.specs.Slots.{is_live, length_of, slot_at, start_of}
use Rattle.khe_told.specs.declared.slots.Slot.{Slot}
use Rattle.khe_solution.specs.Reading.{has_place, has_type, is_fixed_place, resource_at}

-- a task is at a place of this type, which is not preassigned
pub record IsFreeTask (p : Parts) (s : List Slot) (t : TaskId) (rtype : ℕ) : Type 0 where
  pub there : has_place (slot_at s t.meet.0) t.place ≡ true
  pub free : is_fixed_place p (slot_at s t.meet.0).event.0 t.place ≡ false
  pub own : Place
  pub at : place_at p.events (slot_at s t.meet.0).event.0 t.place ≡ Some own
  pub typed : own.rtype ≡ rtype

-- two tasks have one resource, and whatever has the type of the one's place has that of the other's
pub record AreTasksAlike (p : Parts) (s : List Slot) (a b : TaskId) : Type 0 where
  pub there : has_place (slot_at s a.meet.0) a.place ≡ true
  pub free : is_fixed_place p (slot_at s a.meet.0).event.0 a.place ≡ false
  pub some : is_none (resource_at s a) ≡ false
  pub given : resource_at s a ≡ resource_at s b
  pub typed : (r : ℕ) → has_type p r (place_at p.events (slot_at s a.meet.0).event.0 a.place)
      ≡ has_type p r (place_at p.events (slot_at s b.meet.0).event.0 b.place)

-- two meets are of one event and have the same times
pub record AreMeetsAlike (a b : Meet) : Type 0 where
  pub event : a.event.0 ≡ b.event.0
  pub time : TimeId
  pub first : a.start ≡ Some time
  pub second : b.start ≡ Some time
  pub duration : a.duration ≡ b.duration

-- two slots have such meets, which are given the same
pub record AreJoinsAlike (s : List Slot) (a b : ℕ) : Type 0 where
  pub live : is_live (slot_at s a) ≡ true
  pub event : (slot_at s a).event.0 ≡ (slot_at s b).event.0
  pub time : TimeId
  pub first : start_of (slot_at s a) ≡ Some time
  pub second : start_of (slot_at s b) ≡ Some time
  pub duration : length_of (slot_at s a) ≡ length_of (slot_at s b)
  pub some : 1 ≤ length_of (slot_at s a)
  pub given : (slot_at s a).given ≡ (slot_at s b).given
