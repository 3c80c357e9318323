-- What a timetable keeps while it has no instance at hand.
use Rattle.std.specs.Prelude.{ℕ, List}
use Rattle.khe_instance.specs.declared.parts.Parts.{Parts}
use Rattle.khe_told.specs.Valid.{AreValid}
use Rattle.khe_told.specs.declared.slots.Slot.{Slot}
use Rattle.khe_solution.specs.Timetables.{Timetable, HasRoom}

-- its slots, and the room for the changes of one edit
pub record Rested : Type 0 where
  pub slots : List Slot
  pub room : ℕ

-- it is that of a timetable of an instance
abbrev pub FitsIn : Parts → Rested → Type 0
FitsIn p r = AreValid p r.slots × HasRoom p r.room

abbrev pub timetable_of : Parts → Rested → Timetable
timetable_of p r = record { parts = p; slots = r.slots }
