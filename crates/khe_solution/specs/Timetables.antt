-- What contracts see of a solution: the parts of its instance and its slots.
use Rattle.std.specs.Prelude.{ℕ, ◌≡◌, ◌+◌, ◌*◌, ◌^◌, ◌<◌, ◌≤◌, Some, List, length, slice_get, IfSome}
use Rattle.khe_base.specs.declared.numbers.MeetId.{MeetId}
use Rattle.khe_instance.specs.declared.parts.EventInfo.{EventInfo}
use Rattle.khe_instance.specs.declared.parts.Parts.{Parts}
use Rattle.khe_told.specs.Slots.{slot_at, length_of, start_of}
use Rattle.khe_told.specs.declared.slots.Slot.{Slot}
use Rattle.khe_told.specs.declared.edits.Edit.{Edit}
use Rattle.khe_told.specs.declared.edits.Edit.TheVariants.{Split}
use Rattle.khe_told.specs.declared.edits.Back.{Back}
use Rattle.khe_told.specs.declared.edits.Back.TheVariants.{Cut}

pub record Timetable : Type 0 where
  pub parts : Parts
  pub slots : List Slot

-- the room for the changes of one edit of an event's meets: at most three of each place and six more
pub record HasRoom (p : Parts) (capacity : ℕ) : Type 0 where
  pub least : 6 ≤ capacity
  pub each : (e : ℕ) (event : EventInfo) → slice_get p.events e ≡ Some event → 3 * length event.places + 6 ≤ capacity
  pub few : (e : ℕ) (event : EventInfo) → slice_get p.events e ≡ Some event → length event.places < 2 ^ 32

-- the same as seen from the slots; and no meet is so long that two together would not be a duration
pub record AreRoomy (s : List Slot) (capacity : ℕ) : Type 0 where
  pub least : 6 ≤ capacity
  pub each : (m : ℕ) → 3 * length (slot_at s m).given + 6 ≤ capacity
  pub few : (m : ℕ) → length (slot_at s m).given < 2 ^ 32
  pub short : (m : ℕ) → length_of (slot_at s m) < 2 ^ 31

-- where an edit cuts a meet, or the undoing of one does, the rest starts at a time that is a number
abbrev pub StartsLater : List Slot → MeetId → ℕ → Type 0
StartsLater s m cut = IfSome (start_of (slot_at s m.0)) (λ t. t.0 + cut < 2 ^ 32)

abbrev pub CutsWithin : List Slot → Edit → Type 0
CutsWithin s (Split m cut) = (2 ≤ length_of (slot_at s m.0)) × StartsLater s m cut
CutsWithin s _ = Unit {0}

abbrev pub RecutsWithin : List Slot → Back → Type 0
RecutsWithin s (Cut a cut b) = StartsLater s a cut
RecutsWithin s _ = Unit {0}
