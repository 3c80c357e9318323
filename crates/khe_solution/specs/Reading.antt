-- What an edit reads of a slot and of its event. A slot beyond the last one reads as one without a meet and without
-- a place, so every test can be asked.
use Rattle.std.specs.Prelude.{ℕ, ◌≡◌, ◌+◌, ◌==◌, Bool, true, false, ◌&&◌, nat_lt, Option, Some, None, is_none, is_some}
use Rattle.std.specs.Prelude.{List, [], ◌∷◌, length, slice_get}
use Rattle.std.specs.List.{position_or_len}
use Rattle.std.specs.Option.{option_map_or}
use Rattle.khe_base.specs.declared.numbers.ResourceId.{ResourceId}
use Rattle.khe_base.specs.declared.numbers.TaskId.{TaskId}
use Rattle.khe_base.specs.declared.numbers.TimeId.{TimeId}
use Rattle.khe_instance.specs.declared.parts.EventInfo.{EventInfo}
use Rattle.khe_instance.specs.declared.parts.Parts.{Parts}
use Rattle.khe_instance.specs.declared.parts.Place.{Place}
use Rattle.khe_instance.specs.declared.states.Meet.{Meet}
use Rattle.khe_instance.specs.Lookups.{place_at}
use Rattle.khe_told.specs.Slots.{slot_at, length_of, is_live, start_of, given_at}
use Rattle.khe_told.specs.declared.slots.Slot.{Slot}

-- whether the meet of a slot has a start
abbrev pub is_placed : Slot → Bool
is_placed x = is_some (start_of x)

-- whether a slot has a meet with this place
abbrev pub has_place : Slot → ℕ → Bool
has_place x k = is_live x && nat_lt k (length x.given)

-- what a task is given
abbrev pub resource_at : List Slot → TaskId → Option ResourceId
resource_at s t = given_at (slot_at s t.meet.0) t.place

-- whether an event's time is preassigned
abbrev pub is_fixed_event : Parts → ℕ → Bool
is_fixed_event p e = option_map_or (λ (event : EventInfo). is_some event.fixed) (slice_get p.events e) false

-- whether the resource of a place is preassigned
abbrev pub is_fixed_place : Parts → ℕ → ℕ → Bool
is_fixed_place p e k = option_map_or (λ (place : Place). is_some place.fixed) (place_at p.events e k) false

-- whether a resource has the type of a place
abbrev pub has_type : Parts → ℕ → Option Place → Bool
has_type p r place = option_map_or (λ (e : Place). option_map_or (λ x. x.rtype == e.rtype) (slice_get p.resources r)
    false) place false

abbrev pub may_have : Parts → Option ResourceId → Option Place → Bool
may_have p r place = option_map_or (λ (x : ResourceId). has_type p x.0 place) r true

-- whether a meet of this duration would end after the last time
abbrev pub runs_over : Parts → ℕ → ℕ → Bool
runs_over p t d = nat_lt (length p.times) (t + d)

abbrev pub would_run_over : Parts → Option TimeId → ℕ → Bool
would_run_over p t d = option_map_or (λ (x : TimeId). runs_over p x.0 d) t false

-- whether two times, and two resources, are the same
abbrev pub is_time : ℕ → Option TimeId → Bool
is_time t o = option_map_or (λ (x : TimeId). x.0 == t) o false

abbrev pub same_time : Option TimeId → Option TimeId → Bool
same_time None b = is_none b
same_time (Some a) b = is_time a.0 b

abbrev pub is_resource : ℕ → Option ResourceId → Bool
is_resource r o = option_map_or (λ (x : ResourceId). x.0 == r) o false

abbrev pub same_resource : Option ResourceId → Option ResourceId → Bool
same_resource None b = is_none b
same_resource (Some a) b = is_resource a.0 b

-- whether no place is given something else in the two
abbrev pub same_given : List (Option ResourceId) → List (Option ResourceId) → Bool
same_given [] bs = true
same_given (a ∷ more) [] = false
same_given (a ∷ more) (b ∷ bs) = same_resource a b && same_given more bs

-- whether a meet of this duration ends where the other starts, or neither has a start
abbrev pub follows : Option TimeId → ℕ → Option TimeId → Bool
follows start d None = is_none start
follows start d (Some t) = option_map_or (λ (s : TimeId). s.0 + d == t.0) start false

-- the lowest slot of an event without a meet
abbrev pub is_free_of : ℕ → Slot → Bool
is_free_of e x = (x.event.0 == e) && is_none x.span

abbrev pub free_slot : List Slot → ℕ → ℕ
free_slot s e = position_or_len (is_free_of e) s

-- a slot has this meet
pub record Shows (x : Slot) (m : Meet) : Type 0 where
  pub live : is_live x ≡ true
  pub event : x.event ≡ m.event
  pub start : start_of x ≡ m.start
  pub duration : length_of x ≡ m.duration

-- a slot has this meet with this place
pub record ShowsPlace (x : Slot) (k : ℕ) (m : Meet) : Type 0 where
  pub shows : Shows x m
  pub place : has_place x k ≡ true
