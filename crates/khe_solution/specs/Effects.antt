-- What an edit would make of slots.
use Rattle.std.specs.Prelude.{ℕ, ◌≡◌, ◌-◌, Option, List, [], ◌∷◌}
use Rattle.khe_base.specs.declared.numbers.MeetId.{MeetId}
use Rattle.khe_base.specs.declared.numbers.ResourceId.{ResourceId}
use Rattle.khe_base.specs.declared.numbers.TaskId.{TaskId}
use Rattle.khe_base.specs.declared.numbers.TimeId.{TimeId}
use Rattle.khe_instance.specs.declared.parts.Parts.{Parts}
use Rattle.khe_told.specs.Effects.{AreTurns, turned_all}
use Rattle.khe_told.specs.Slots.{length_of, slot_at, start_of}
use Rattle.khe_told.specs.Turns.{SlotTurn}
use Rattle.khe_told.specs.declared.slots.Slot.{Slot}
use Rattle.khe_solution.specs.Editing.{later, with_meet, with_resource, with_start}

-- a meet gets this start, and a task this resource
abbrev pub retiming : List Slot → MeetId → Option TimeId → SlotTurn
retiming s m t = record { before = slot_at s m.0; after = with_start (slot_at s m.0) t }

abbrev pub restaffing : List Slot → TaskId → Option ResourceId → SlotTurn
restaffing s t r = record { before = slot_at s t.meet.0; after = with_resource (slot_at s t.meet.0) t.place r }

-- a meet becomes so long only, and a slot gets the rest of it
abbrev pub shortening : List Slot → MeetId → ℕ → SlotTurn
shortening s m cut =
    let x = slot_at s m.0 in
    record { before = x; after = with_meet x cut (start_of x) x.given }

abbrev pub receiving : List Slot → MeetId → ℕ → MeetId → SlotTurn
receiving s m cut n =
    let x = slot_at s m.0 in
    let z = slot_at s n.0 in
    record { before = z; after = with_meet z (length_of x - cut) (later cut (start_of x)) x.given }

abbrev pub cutting : List Slot → MeetId → ℕ → MeetId → List SlotTurn
cutting s m cut n = shortening s m cut ∷ receiving s m cut n ∷ []

-- one after the other, turns that lead from one told state to another
pub record LeadTo (p : Parts) (s : List Slot) (ts : List SlotTurn) (s2 : List Slot) : Type 0 where
  pub turns : AreTurns p s ts
  pub leads : turned_all s ts ≡ s2
