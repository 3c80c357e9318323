-- An event has as many units as times of its duration. A meet holds one for each of its times, and the others are
-- free, so demands keep their numbers.
use Rattle.std.specs.Prelude.{ℕ, zero, suc, ◌+◌, ◌*◌, ◌≡◌, ◌≢◌, ◌<◌, Some, List, length, slice_get, slice_index_or}
use Rattle.std.specs.List.{sum_by}
use Rattle.khe_instance.specs.Slots.{HasSlot, first_task}
use Rattle.khe_instance.specs.declared.parts.EventInfo.{EventInfo}
use Rattle.khe_told.specs.Slots.{slot_at, length_of, held}
use Rattle.khe_told.specs.declared.slots.Slot.{Slot}

-- the unit that is a number of units after this one
unfoldable pub walk : List ℕ → ℕ → ℕ → ℕ
walk next u zero = u
walk next u (suc n) = slice_index_or next (walk next u n) 0

-- the unit of a meet at an offset, and a free unit of an event
abbrev pub unit_at : List ℕ → List ℕ → ℕ → ℕ → ℕ
unit_at next firsts m o = walk next (slice_index_or firsts m 0) o

-- the offset is one of the meet in the slot
abbrev pub IsOffset : List Slot → ℕ → ℕ → Type 0
IsOffset s m o = o < length_of (slot_at s m)

-- the event has as many free units, and more
abbrev pub IsFree : List Slot → ℕ → EventInfo → ℕ → Type 0
IsFree s e event i = held e s + i < event.duration

-- how many units all events have
abbrev pub units_of : List EventInfo → ℕ
units_of events = sum_by (λ e. e.duration) events

-- each offset of a meet has a unit of the meet's event, so has each free unit, and no two are the same
pub record AreUnits (events : List EventInfo) (s : List Slot) (next firsts free : List ℕ) : Type 0 where
  pub next_length : length next ≡ units_of events
  pub firsts_length : length firsts ≡ units_of events
  pub free_length : length free ≡ length events
  pub holds : (m o : ℕ) → IsOffset s m o → HasSlot events (slot_at s m).event.0 (unit_at next firsts m o)
  pub apart : (m n i j : ℕ) → IsOffset s m i → IsOffset s n j → unit_at next firsts m i ≡ unit_at next firsts n j
      → (m ≡ n) × (i ≡ j)
  pub spare : (e i : ℕ) (event : EventInfo) → slice_get events e ≡ Some event → IsFree s e event i
      → HasSlot events e (unit_at next free e i)
  pub spare_apart : (e i j : ℕ) (event : EventInfo) → slice_get events e ≡ Some event → IsFree s e event i
      → IsFree s e event j → unit_at next free e i ≡ unit_at next free e j → i ≡ j
  pub others : (m o e i : ℕ) (event : EventInfo) → IsOffset s m o → slice_get events e ≡ Some event → IsFree s e event i
      → unit_at next firsts m o ≢ unit_at next free e i

-- how many task slots there are
abbrev pub tasks_of : List EventInfo → ℕ
tasks_of events = sum_by (λ e. e.duration * length e.places) events

-- the numbers of the first demands of the units
pub record AreFirsts (events : List EventInfo) (tasks : List ℕ) : Type 0 where
  pub amount : length tasks ≡ units_of events
  pub each : (u : ℕ) → u < units_of events → slice_index_or tasks u 0 ≡ first_task events u
