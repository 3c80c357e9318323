-- How many steps a script takes or owes at most: the watchers of the changes of the edits that are accepted, and of the
-- trails that are undone.
use Rattle.std.specs.Prelude.{ℕ, ◌+◌, ◌-◌, Option, Some, None, Result, Ok, Err, List, [], ◌∷◌, length}
use Rattle.khe_instance.specs.declared.parts.Parts.{Parts}
use Rattle.khe_told.specs.Watchers.{watcher_counts}
use Rattle.khe_told.specs.declared.refusals.Refusal.{Refusal}
use Rattle.khe_engine.specs.States.{State, changes, edited, refusal}
use Rattle.khe_engine.specs.Worlds.{Owing, Saved, World, closed, fresh, from_mark, grown, last_cost, trails_cost}
use Rattle.edit_script.specs.Reading.{reading}
use Rattle.edit_script.specs.declared.commands.Command.{Command}
use Rattle.edit_script.specs.declared.commands.Command.TheVariants as command
use Rattle.edit_script.specs.declared.commands.LineFault.{LineFault}
use Rattle.script_run.specs.Plays.{begin_refusal, mark_refusal}

-- a state, and what was saved at the open marks, with their trails
pub record Trace : Type 0 where
  pub state : State
  -- the innermost mark first
  pub saved : List Saved

abbrev pub trace_of : World → Trace
trace_of w = record { state = w.state; saved = w.saved }

-- one thing where something is refused, and another where it is not
abbrev pub by_refusal : {A : Type 0} → Option Refusal → A → A → A
by_refusal (Some r) refused made = refused
by_refusal None refused made = made

-- back at the innermost of these marks
abbrev pub back_at : Trace → List Saved → Trace
back_at t [] = t
back_at t (x ∷ xs) = record { state = x.state; saved = fresh x.state ∷ xs }

-- what a command makes of it
unfoldable pub traced : Parts → Trace → Command → Trace
traced p t (command.Edit e) = by_refusal (refusal p t.state e) t
    (record { state = edited t.state e; saved = grown (changes t.state e) t.saved })
traced p t command.Begin = by_refusal (begin_refusal t.saved) t
    (record { state = t.state; saved = fresh t.state ∷ t.saved })
traced p t command.End = record { state = t.state; saved = closed t.saved }
traced p t command.Undo = back_at t t.saved
traced p t (command.UndoTo k) = by_refusal (mark_refusal k t.saved) t (back_at t (from_mark k t.saved))
traced p t _ = t

-- the watchers of the changes that a command makes
unfoldable pub command_steps : Parts → Trace → Command → ℕ
command_steps p t (command.Edit e) =
    by_refusal (refusal p t.state e) 0 (watcher_counts p t.state.slots (changes t.state e))
command_steps p t command.Undo = last_cost p t.saved
command_steps p t (command.UndoTo k) =
    by_refusal (mark_refusal k t.saved) 0 (trails_cost p (length t.saved + 1 - k) t.saved)
command_steps p t _ = 0

-- those of a line by its reading, and of lines up to the first without one
abbrev pub read_steps : Result Command LineFault → (Command → ℕ) → ℕ
read_steps (Ok c) steps = steps c
read_steps (Err fault) steps = 0

abbrev pub script_steps : Parts → Trace → List (List ℕ) → ℕ
script_steps p t [] = 0
script_steps p t (line ∷ more) =
    read_steps (reading line) (λ c. command_steps p t c + script_steps p (traced p t c) more)

-- the same of an engine, and none where there is none
abbrev pub steps_of : Option World → List (List ℕ) → ℕ
steps_of o [] = 0
steps_of None (line ∷ more) = 0
steps_of (Some w) (line ∷ more) = script_steps w.parts (trace_of w) (line ∷ more)

-- what an engine owes that is put off, if one is
abbrev pub owed_by : Option Owing → ℕ
owed_by None = 0
owed_by (Some b) = b.owed
