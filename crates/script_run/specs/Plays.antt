-- A play is a state with the states that were saved at the open marks, and each command makes of it what the tables
-- say. An undo makes the saved state the present one again.
use Rattle.std.specs.Prelude.{ℕ, ◌-◌, ◌==◌, nat_lt, ◌||◌, Bool, true, false, if◌then◌else◌, Option, Some, None, List}
use Rattle.std.specs.Prelude.{[], ◌∷◌, drop, length, map}
use Rattle.khe_base.specs.declared.limits.TheConstants.{MARKS}
use Rattle.khe_instance.specs.declared.parts.Parts.{Parts}
use Rattle.khe_told.specs.declared.refusals.Refusal.{Refusal}
use Rattle.khe_told.specs.declared.refusals.Refusal.TheVariants.{NoMark, MarksFull}
use Rattle.khe_engine.specs.States.{State, refusal, edited}
use Rattle.khe_engine.specs.Worlds.{Saved, World}
use Rattle.edit_script.specs.declared.commands.Command.{Command}
use Rattle.edit_script.specs.declared.commands.Command.TheVariants as command

-- a state of some kind, and the states that were saved at the open marks
pub record PlayOf (S : Type 0) : Type 0 where
  pub state : S
  -- that of the innermost mark first
  pub saved : List S

abbrev pub Play : Type 0
Play = PlayOf State

-- what an engine's world is to a script
abbrev pub play_of : World → Play
play_of w = record { state = w.state; saved = map (λ (x : Saved). x.state) w.saved }

-- a play that begins with a state
abbrev pub begun : {S : Type 0} → S → PlayOf S
begun s = record { state = s; saved = [] }

-- the states saved at a mark, counted from 1 at the outermost, and at those around it
abbrev pub saved_to : {S : Type 0} → ℕ → List S → List S
saved_to k saved = drop (length saved - k) saved

-- the state of the innermost mark again, with these marks
abbrev pub restored : {S : Type 0} → PlayOf S → List S → PlayOf S
restored w [] = w
restored w (x ∷ xs) = record { state = x; saved = x ∷ xs }

-- why a mark is not opened, closed or gone back to, if it is not
abbrev pub begin_refusal : {S : Type 0} → List S → Option Refusal
begin_refusal saved = if length saved == MARKS then Some MarksFull else None

abbrev pub last_refusal : {S : Type 0} → List S → Option Refusal
last_refusal [] = Some NoMark
last_refusal (x ∷ xs) = None

abbrev pub mark_refusal : {S : Type 0} → ℕ → List S → Option Refusal
mark_refusal k saved = if (k == 0) || nat_lt (length saved) k then Some NoMark else None

-- what is made of a play where nothing is refused
abbrev pub unless : {R S : Type 0} → Option R → PlayOf S → PlayOf S → PlayOf S
unless (Some r) w w2 = w
unless None w w2 = w2

-- what a command of marks makes of a play, and that no other command changes it
abbrev pub marked : {S : Type 0} → PlayOf S → Command → PlayOf S
marked w command.Begin = unless (begin_refusal w.saved) w (record w { saved = w.state ∷ w.saved })
marked w command.End = record w { saved = drop 1 w.saved }
marked w command.Undo = restored w w.saved
marked w (command.UndoTo k) = unless (mark_refusal k w.saved) w (restored w (saved_to k w.saved))
marked w _ = w

-- what a command makes of a play
unfoldable pub played : Parts → Play → Command → Play
played p w (command.Edit e) = unless (refusal p w.state e) w (record w { state = edited w.state e })
played p w c = marked w c

-- whether a command asks and changes nothing
abbrev pub is_question : Command → Bool
is_question (command.Edit e) = false
is_question command.Begin = false
is_question command.End = false
is_question command.Undo = false
is_question (command.UndoTo k) = false
is_question _ = true

-- a command that asks for something
abbrev pub asks : Command → Bool
asks (command.Ask question) = true
asks (command.AskAbout subject number) = true
asks _ = false
