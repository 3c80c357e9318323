-- The meets of the events that a point names.
use Rattle.std.specs.Prelude.{ℕ, ◌≡◌, ◌+◌, ◌≤◌, Bool, true, ◌&&◌, Option, Some, None, List, slice_get}
use Rattle.khe_base.specs.declared.numbers.ResourceId.{ResourceId}
use Rattle.khe_instance.specs.Watching.{names_event}
use Rattle.khe_instance.specs.declared.parts.EventInfo.{EventInfo}
use Rattle.khe_instance.specs.declared.parts.Parts.{Parts}
use Rattle.khe_instance.specs.declared.points.Point.{Point}
use Rattle.khe_instance.specs.declared.rules.EventPair.{EventPair}
use Rattle.khe_instance.specs.declared.rules.Rule.{Rule}
use Rattle.khe_instance.specs.declared.rules.Rule.TheVariants.{OrderEvents}
use Rattle.khe_told.specs.Slots.{slot_at, is_live}
use Rattle.khe_told.specs.declared.slots.Slot.{Slot}
use Rattle.repair_moves.specs.Items.{is_task_of, meet_slots}

-- a slot has a meet of an event that the point names
unfoldable pub is_named : Parts → List Slot → Rule → Point → ℕ → Bool
is_named p s rule point n = is_live (slot_at s n) && names_event p rule point (slot_at s n).event.0

-- the slots of each event that the point names are among those of these numbers
pub record AreWithin (p : Parts) (rule : Rule) (point : Point) (start end : ℕ) : Type 0 where
  pub slots : end ≤ meet_slots p
  pub each : (e : ℕ) (event : EventInfo) → slice_get p.events e ≡ Some event → names_event p rule point e ≡ true
      → (start ≤ event.first_meet) × (event.first_meet + event.duration ≤ end)

-- an event's slots are those of these numbers
abbrev pub AreSlotsOf : Parts → ℕ → ℕ → ℕ → Type 0
AreSlotsOf p e start end = (event : EventInfo) → slice_get p.events e ≡ Some event
    → (start ≡ event.first_meet) × (end ≡ event.first_meet + event.duration)

-- a task is a monitor's only in an event that the point names
abbrev pub NamesItsTasks : Parts → Rule → Point → Type 0
NamesItsTasks p rule point = (e k : ℕ) (given : Option ResourceId) → is_task_of p rule point e k given ≡ true
    → names_event p rule point e ≡ true

-- the pair with a number of a rule's list
abbrev pub pair_at : Rule → ℕ → Option EventPair
pair_at (OrderEvents pairs) k = slice_get pairs k
pair_at _ k = None
