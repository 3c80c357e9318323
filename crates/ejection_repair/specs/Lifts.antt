-- Moves of one meet or task that are tried while it is lifted.
use Rattle.std.specs.Prelude.{ℕ, ◌≡◌, ◌≤◌, true, Option, Some, None, List, [], ◌++◌, All, length, take}
use Rattle.std.specs.List.{filter}
use Rattle.khe_instance.specs.declared.parts.Parts.{Parts}
use Rattle.khe_told.specs.declared.edits.Edit.{Edit}
use Rattle.khe_told.specs.declared.edits.Edit.TheVariants.{Assign, Unassign, MoveTo, Give, Take, Regive}
use Rattle.khe_told.specs.declared.slots.Slot.{Slot}
use Rattle.khe_solution.specs.Refusing.{is_of_meets, refusal}
use Rattle.khe_engine.specs.States.{State, edited}
use Rattle.repair_moves.specs.declared.moved.Moved.{Moved}
use Rattle.repair_moves.specs.declared.moved.Moved.TheVariants.{Meet, Task}
use Rattle.ejection_repair.specs.Chains.{Chain}
use Rattle.ejection_repair.specs.Rounds.{moves_ahead}
use Rattle.ejection_repair.specs.Trails.{is_fresh}
use Rattle.ejection_repair.specs.declared.rounds.MoveRound.{MoveRound}

-- an edit of meets and tasks that is accepted
pub record IsMove (p : Parts) (s : List Slot) (e : Edit) : Type 0 where
  pub ours : is_of_meets e ≡ true
  pub accepted : refusal p s e ≡ None

-- the meet or task that a move lifts before it puts it elsewhere, if it does so
unfoldable pub lifted_by : Edit → Option Moved
lifted_by (MoveTo m t) = Some (Meet m)
lifted_by (Regive k r) = Some (Task k)
lifted_by _ = None

-- the edit that lifts it
unfoldable pub lift_of : Moved → Edit
lift_of (Meet m) = Unassign m
lift_of (Task k) = Take k

-- the edit that puts it there once it is lifted; another move as it is
unfoldable pub put_of : Edit → Edit
put_of (MoveTo m t) = Assign m t
put_of (Regive k r) = Give k r
put_of e = e

-- all of these moves lift this, and the marks for it are free; or there is one move alone
abbrev pub IsRun : Option Moved → List Edit → ℕ → Type 0
IsRun None es free = length es ≡ 1
IsRun (Some x) es free = (1 ≤ free) × All (λ e. lifted_by e ≡ Some x) es

-- a chain of which only the state counts, since nothing extends it
unfoldable pub ended : State → Edit → Chain
ended s e = record { moved = []; state = edited s e }

-- the moves of a walk that move nothing anew
unfoldable pub fresh_ahead : Parts → List Slot → List Moved → MoveRound → List Edit
fresh_ahead p s moved r = filter (is_fresh s moved) (moves_ahead p s r)

-- as many moves of a list as were written into a row, or there is none
abbrev pub AreNext : Option ℕ → List Edit → List Edit → List Edit → Type 0
AreNext None row before after = before ≡ []
AreNext (Some n) row before after = (1 ≤ n) × (n ≤ length row) × (before ≡ take n row ++ after)
