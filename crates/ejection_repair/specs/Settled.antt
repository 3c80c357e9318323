-- A state is settled to a length where no chain of at most that many moves leaves lower totals, whatever the order.
-- And what an outcome of a repair says of its state.
use Rattle.std.specs.Prelude.{ℕ, ◌≡◌, ◌<◌, ◌≤◌, ◌⊎◌, true, false, List, [], ◌∷◌, length, Option, Some, None}
use Rattle.khe_instance.specs.declared.parts.Parts.{Parts}
use Rattle.khe_told.specs.declared.edits.Edit.{Edit}
use Rattle.khe_engine.specs.States.{State, edited, refusal}
use Rattle.monitor_graph.specs.Dearer.{dearer, only}
use Rattle.repair_moves.specs.Moves.{moves}
use Rattle.ejection_repair.specs.Chains.{Chain, longer, unmoved}
use Rattle.ejection_repair.specs.Trails.{is_fresh}
use Rattle.ejection_repair.specs.Values.{totals_at, are_lower, costs_at, defects}
use Rattle.ejection_repair.specs.declared.outcome.Outcome.{Outcome}
use Rattle.ejection_repair.specs.declared.outcome.Outcome.TheVariants.{Done, Spent}

abbrev pub Among : {A : Type 0} → A → List A → Type 0
Among x [] = ⊥
Among x (y ∷ ys) = (x ≡ y) ⊎ Among x ys

-- these moves lead on from a chain, the first of them a move of this monitor, if there is one
abbrev pub LeadsOn : Parts → List ℕ → Chain → Option ℕ → List Edit → Chain → Type 0
LeadsOn p marked c m [] d = c ≡ d
LeadsOn p marked c None (e ∷ es) d = ⊥
LeadsOn p marked c (Some m) (e ∷ es) d =
    Among e (moves p c.state.slots m) × (is_fresh c.state.slots c.moved e ≡ true)
    × LeadsOn p marked (longer c e) (only (dearer marked (costs_at p (longer c e).state))) es d

-- a chain of moves from a state: the first is a move of a defect, each further one a move of the only
-- monitor that is dearer than it was at the start, and nothing is moved twice
abbrev pub IsChain : Parts → State → Edit → List Edit → Chain → Type 0
IsChain p s e es d = (m : ℕ) × Among m (defects (costs_at p s))
    × LeadsOn p (costs_at p s) (unmoved s) (Some m) (e ∷ es) d

-- no chain of at most this many moves leaves lower totals
abbrev pub IsSettled : Parts → State → ℕ → Type 0
IsSettled p s k = (e : Edit) (es : List Edit) (d : Chain) → length es < k → IsChain p s e es d
    → are_lower (totals_at p d.state) (totals_at p s) ≡ false

-- how many chains were taken
abbrev pub accepted_of : Outcome → ℕ
accepted_of (Done a t) = a
accepted_of (Spent a t k) = a

-- the state is the same and nothing was accepted, or it is lower and something was
abbrev pub IsNoWorse : Parts → State → State → ℕ → Type 0
IsNoWorse p s u a = ((a ≡ 0) × (u ≡ s)) ⊎ ((0 < a) × (are_lower (totals_at p u) (totals_at p s) ≡ true))

-- accepted edits of meets and tasks lead from a state to another
abbrev pub AreSteps : Parts → State → List Edit → State → Type 0
AreSteps p s [] u = s ≡ u
AreSteps p s (e ∷ es) u = (refusal p s e ≡ None) × AreSteps p (edited s e) es u

abbrev pub IsReached : Parts → State → State → Type 0
IsReached p s u = (es : List Edit) × AreSteps p s es u

-- the length to which the state is settled: the depth where it is done, and otherwise the number of
-- lengths that were gone through
abbrev pub settled_to : ℕ → Outcome → ℕ
settled_to depth (Done a t) = depth
settled_to depth (Spent a t k) = k

-- as many chains were tried as the budget allows, or fewer where it is done
abbrev pub HasTried : ℕ → Outcome → Type 0
HasTried budget (Done a t) = t ≤ budget
HasTried budget (Spent a t k) = t ≡ budget

-- where the budget is spent, not all lengths were gone through
abbrev pub StopsBelow : ℕ → Outcome → Type 0
StopsBelow depth (Done a t) = Unit {0}
StopsBelow depth (Spent a t k) = k < depth

-- what an outcome says is true of its state
abbrev pub IsTrueOf : Parts → ℕ → ℕ → State → Outcome → Type 0
IsTrueOf p depth budget s o = IsSettled p s (settled_to depth o) × HasTried budget o × StopsBelow depth o
