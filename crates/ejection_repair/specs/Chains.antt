-- A chain begins with a move of a defect, each further one is a move of the only monitor that is dearer than at the
-- start, and nothing is moved twice. Here are all chains of at most some moves, in the order in which they are
-- tried: a chain before its extensions, otherwise by defects and then by moves, each list begun at the diversifier's
-- place and taken round.
use Rattle.std.specs.Prelude.{ℕ, zero, suc, ◌%◌, List, [], ◌∷◌, ◌++◌, length, take, drop}
use Rattle.std.specs.List.{filter, flat_map}
use Rattle.std.specs.Option.{option_map_or}
use Rattle.khe_instance.specs.declared.parts.Parts.{Parts}
use Rattle.khe_told.specs.declared.edits.Edit.{Edit}
use Rattle.khe_engine.specs.States.{State, edited}
use Rattle.monitor_graph.specs.Dearer.{dearer, only}
use Rattle.repair_moves.specs.Moved.{moved_by}
use Rattle.repair_moves.specs.Moves.{moves}
use Rattle.repair_moves.specs.declared.moved.Moved.{Moved}
use Rattle.ejection_repair.specs.Trails.{is_fresh}
use Rattle.ejection_repair.specs.Values.{costs_at, defects}

-- a chain: the meets and tasks that its moves moved, and the state that it leaves
pub record Chain : Type 0 where
  pub moved : List Moved
  pub state : State

-- the chain of no moves
abbrev pub unmoved : State → Chain
unmoved s = record { moved = []; state = s }

-- a list begun at the place that a number has modulo its length, and taken round
unfoldable pub rotated : {A : Type 0} → ℕ → List A → List A
rotated v xs = drop (v % length xs) xs ++ take (v % length xs) xs

-- a chain with one move more
unfoldable pub longer : Chain → Edit → Chain
longer c e = record { moved = c.moved ++ moved_by c.state.slots e; state = edited c.state e }

-- by each of these moves that moves nothing anew, what it makes of a chain, and then what comes on
-- from there
unfoldable pub tried : (Chain → List Chain) → Chain → List Edit → List Chain
tried on c es = flat_map (λ e. longer c e ∷ on (longer c e)) (filter (is_fresh c.state.slots c.moved) es)

-- the extensions of a chain by at most a number of moves, the first of them a move of this monitor, and
-- each further one a move of the only monitor that is dearer than marked then
unfoldable pub extensions : Parts → List ℕ → ℕ → ℕ → Chain → ℕ → List Chain
extensions p marked v zero c m = []
extensions p marked v (suc k) c m =
    tried (λ d. option_map_or (extensions p marked v k d) (only (dearer marked (costs_at p d.state))) []) c
    (rotated v (moves p c.state.slots m))

-- all chains of at most a number of moves
unfoldable pub chains : Parts → State → ℕ → ℕ → List Chain
chains p s v k = flat_map (extensions p (costs_at p s) v k (unmoved s)) (rotated v (defects (costs_at p s)))

-- the extensions by moves of the only monitor that is dearer; and a chain with these
unfoldable pub further_at : Parts → List ℕ → ℕ → ℕ → Chain → List Chain
further_at p marked v k d = option_map_or (extensions p marked v k d) (only (dearer marked (costs_at p d.state))) []

unfoldable pub onward : Parts → List ℕ → ℕ → ℕ → Chain → List Chain
onward p marked v k d = d ∷ further_at p marked v k d
