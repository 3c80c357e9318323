-- Runs of a board as plain data: steps, new workers, and workers that join another, in any order.
use Rattle.std.specs.Prelude.{◌≢◌, ℕ, List, [], ◌∷◌, ◌++◌, slice_set}
use Rattle.solve_board.specs.States.{list_of, stepped, IsWorker, MayStep}
use Rattle.solve_board.specs.declared.states.BoardState.{BoardState}
use Rattle.solve_board.specs.declared.states.BoardStep.{BoardStep}

-- one worker's list moves to the end of another's
abbrev pub moved : List (List ℕ) → ℕ → ℕ → List (List ℕ)
moved lists into from = slice_set (slice_set lists into (list_of lists into ++ list_of lists from)) from []

-- what may happen to a board: a step, a new worker, or a worker that joins another and leaves it its lists
pub data Event : Type 0 where
  Steps : BoardStep → Event
  Splits : Event
  Joins : (into from : ℕ) → Event

-- the state after an event
abbrev pub after : BoardState → Event → BoardState
after s (Steps step) = stepped s step
after s Splits = record { next = s.next; claims = s.claims ++ [] ∷ []; offers = s.offers ++ [] ∷ [] }
after s (Joins into from) = record {
  next = s.next;
  claims = moved s.claims into from;
  offers =
      moved s.offers into from;
}

-- what a state has to show for an event
abbrev pub MayHappen : BoardState → Event → Type 0
MayHappen s (Steps step) = MayStep s step
MayHappen s Splits = Unit {0}
MayHappen s (Joins into from) = IsWorker s into × IsWorker s from × (into ≢ from)

-- a run: each event may happen in the state that the ones before it leave
abbrev pub IsRun : BoardState → List Event → Type 0
IsRun s [] = Unit {0}
IsRun s (e ∷ es) = MayHappen s e × IsRun (after s e) es

-- the state after a run
abbrev pub ran : BoardState → List Event → BoardState
ran s [] = s
ran s (e ∷ es) = ran (after s e) es

-- the state without workers
abbrev pub nobody : BoardState
nobody = record { next = 0; claims = []; offers = [] }
