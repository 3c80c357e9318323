-- A told state is a list of slots, one for each meet slot of the instance: its event, the duration and start of its
-- meet if there is one, and what each place is given.
use Rattle.std.specs.Prelude.{ℕ, ◌≡◌, ◌+◌, ◌==◌, Bool, if◌then◌else◌, Option, None, is_some, List, [], ◌∷◌, ◌++◌, map}
use Rattle.std.specs.Prelude.{length, replicate, slice_index_or}
use Rattle.std.specs.List.{sum_by, range_with_len}
use Rattle.std.specs.Option.{option_and_then, option_map_or}
use Rattle.khe_base.specs.declared.numbers.ResourceId.{ResourceId}
use Rattle.khe_base.specs.declared.numbers.TimeId.{TimeId}
use Rattle.khe_instance.specs.declared.parts.EventInfo.{EventInfo}
use Rattle.khe_instance.specs.declared.parts.Parts.{Parts}
use Rattle.khe_told.specs.declared.slots.Slot.{Slot}
use Rattle.khe_told.specs.declared.slots.Span.{Span}

-- a free slot of an event, by its number, the event's number and the event
abbrev pub empty_slot : ℕ → ℕ → EventInfo → Slot
empty_slot meet e event = record {
  meet = record { 0 = meet };
  event = record { 0 = e };
  span = None;
  given =
      replicate (length event.places) None;
}

-- the slots of an event, which stand together, all free
abbrev pub slots_of_event : ℕ → EventInfo → List Slot
slots_of_event e event = map (λ m. empty_slot m e event) (range_with_len event.first_meet event.duration)

-- those of events that are numbered on from this number
abbrev pub slots_from : ℕ → List EventInfo → List Slot
slots_from e [] = []
slots_from e (event ∷ events) = slots_of_event e event ++ slots_from (e + 1) events

-- the told state without meets
abbrev pub no_meets : Parts → List Slot
no_meets p = slots_from 0 p.events

-- a slot without its meet
abbrev pub emptied : Slot → Slot
emptied x = record x { span = None; given = replicate (length x.given) None }

-- what stands for a slot beyond the last: it has no meet and no place
abbrev pub no_slot : Slot
no_slot = record { meet = record { 0 = 0 }; event = record { 0 = 0 }; span = None; given = [] }

-- the slot with this number
abbrev pub slot_at : List Slot → ℕ → Slot
slot_at s m = slice_index_or s m no_slot

-- whether a slot has a meet, the meet's start, and what a place is given in it
abbrev pub is_live : Slot → Bool
is_live x = is_some x.span

abbrev pub start_of : Slot → Option TimeId
start_of x = option_and_then (λ (y : Span). y.start) x.span

abbrev pub given_at : Slot → ℕ → Option ResourceId
given_at x k = slice_index_or x.given k None

-- a slot without a meet has nothing given
abbrev pub IsBareIfFree : Slot → Type 0
IsBareIfFree x = x.span ≡ None → x.given ≡ replicate (length x.given) None

-- the duration of a slot's meet, and 0 where it has none
abbrev pub length_of : Slot → ℕ
length_of x = option_map_or (λ y. y.duration) x.span 0

-- how much of an event's duration a slot holds, and all slots together
abbrev pub held_by : ℕ → Slot → ℕ
held_by e x = if x.event.0 == e then length_of x else 0

abbrev pub held : ℕ → List Slot → ℕ
held e s = sum_by (held_by e) s
