-- What an engine stands for: the instance's parts, the present state, and for each open mark the whole state that
-- was saved there with the changes since.
use Rattle.std.specs.Prelude.{ℕ, ◌≡◌, ◌+◌, ◌-◌, Option, Some, None, Result, Ok, Err, List, [], ◌∷◌, ◌++◌, drop, take}
use Rattle.std.specs.Prelude.{length}
use Rattle.std.specs.List.{sum_by}
use Rattle.khe_instance.specs.declared.parts.Parts.{Parts}
use Rattle.khe_told.specs.Watchers.{watcher_counts}
use Rattle.khe_told.specs.declared.changes.Change.{Change}
use Rattle.khe_told.specs.declared.refusals.Refusal.{Refusal}
use Rattle.khe_engine.specs.declared.faults.EditFault.{EditFault}
use Rattle.khe_engine.specs.declared.faults.EditFault.TheVariants.{Refused, NoMemory as NoRoom}
use Rattle.khe_engine.specs.States.{State}

-- the state at a mark, its trail, which is the changes since then, and how many records are kept
pub record Saved : Type 0 where
  pub state : State
  pub trail : List Change
  pub records : ℕ

pub record World : Type 0 where
  pub parts : Parts
  pub state : State
  -- the innermost mark first
  pub saved : List Saved
  -- how many records can be kept without memory
  pub spare : ℕ
  -- the costs that the costs are compared with
  pub marked : List ℕ

-- what an engine that is put off stands for: its world, and how many steps it owes at most for changes that it has
-- not measured yet
pub record Owing : Type 0 where
  pub world : World
  pub owed : ℕ

-- a mark that was just opened
abbrev pub fresh : State → Saved
fresh s = record { state = s; trail = []; records = 0 }

-- after an accepted edit with these changes
abbrev pub grown : List Change → List Saved → List Saved
grown cs [] = []
grown cs (x ∷ xs) = record { state = x.state; trail = x.trail ++ cs; records = x.records + 1 } ∷ xs

-- after the innermost mark is closed: its changes count for the mark around it
abbrev pub closed : List Saved → List Saved
closed [] = []
closed (x ∷ []) = []
closed (x ∷ y ∷ rest) = record { state = y.state; trail = y.trail ++ x.trail; records = y.records + x.records } ∷ rest

-- the marks around the innermost one
abbrev pub around : List Saved → List Saved
around [] = []
around (x ∷ xs) = xs

-- the state at the innermost mark, or the present one where no mark is open
abbrev pub last_saved : State → List Saved → State
last_saved s [] = s
last_saved s (x ∷ xs) = x.state

-- the k-th mark and those around it, where the outermost is the first
abbrev pub from_mark : ℕ → List Saved → List Saved
from_mark k xs = drop (length xs - k) xs

-- how many records all marks have
abbrev pub kept : List Saved → ℕ
kept xs = sum_by (λ (x : Saved). x.records) xs

-- how many watchers a trail has, each change in the state in which it was made
abbrev pub trail_cost : Parts → Saved → ℕ
trail_cost p x = watcher_counts p x.state.slots x.trail

-- that of the innermost mark, and those of n marks
abbrev pub last_cost : Parts → List Saved → ℕ
last_cost p [] = 0
last_cost p (x ∷ xs) = trail_cost p x

abbrev pub trails_cost : Parts → ℕ → List Saved → ℕ
trails_cost p n xs = sum_by (trail_cost p) (take n xs)

-- how a check answers: with the refusal, if there is one
abbrev pub IsCheck : Option Refusal → Result (Unit {0}) Refusal → Type 0
IsCheck o (Ok u) = o ≡ None
IsCheck o (Err r) = o ≡ Some r

-- why an edit was not made: its refusal, or memory where it has none
abbrev pub IsFaultOf : Option Refusal → EditFault → Type 0
IsFaultOf (Some r) f = f ≡ Refused r
IsFaultOf None f = f ≡ NoRoom
