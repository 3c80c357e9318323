-- What an engine keeps while it has no instance at hand.
use Rattle.std.specs.Prelude.{ℕ, ◌≡◌, List}
use Rattle.khe_instance.specs.declared.parts.Parts.{Parts}
use Rattle.khe_told.specs.Waits.{Waiters}
use Rattle.khe_told.specs.declared.edits.Back.{Back}
use Rattle.khe_told.specs.declared.slots.Slot.{Slot}
use Rattle.khe_solution.specs.Resting as timetable
use Rattle.khe_solution.specs.Timetables.{HasRoom}
use Rattle.monitor_graph.specs.Boards.{Board}
use Rattle.undo_paths.specs.Stack.{Stack}
use Rattle.khe_engine.specs.Records.{MarksLead, saved_of}
use Rattle.khe_engine.specs.Settled.{IsIdle}
use Rattle.khe_engine.specs.States.{state_of}
use Rattle.khe_engine.specs.Values.{HasValues}
use Rattle.khe_engine.specs.Worlds.{World}

-- its timetable, its families, what they are told, its records, and the room for the changes of one edit
pub record Rested (Fam : Type 0) : Type 0 where
  pub timetable : timetable.Rested
  pub families : Fam
  pub board : Board
  pub waiting : Waiters
  pub journal : Stack Back
  pub room : ℕ

-- it is that of an engine of an instance: its families are of it and were told of its timetable
pub record FitsIn {Fam : Type 0} (IsOf : Fam → Parts → Type 0) (told : Fam → List Slot) (p : Parts) (r : Rested Fam) : Type
    0 where
  pub timetable : timetable.FitsIn p r.timetable
  pub families : IsOf r.families p
  pub same : told r.families ≡ r.timetable.slots
  pub values : HasValues p r.timetable.slots r.board
  pub marks : MarksLead p r.board.seats (state_of r.timetable.slots r.board) r.journal.since
  pub idle : IsIdle p r.waiting
  pub roomy : HasRoom p r.room

-- the world of that engine
abbrev pub world_of : {Fam : Type 0} → Parts → Rested Fam → World
world_of p r = record {
  parts = p;
  state = state_of r.timetable.slots r.board;
  saved = saved_of (state_of r.timetable.slots r.board) r.journal.since;
  spare = r.journal.spare;
  marked = r.board.marked;
}
