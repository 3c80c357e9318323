-- A board as plain data: what each step does, and the order that every step keeps. There is a list of
-- claims and one of offers for each worker.
use Rattle.std.specs.Prelude.{◌≡◌, ℕ, ◌+◌, ◌-◌, ◌^◌, ◌<◌, List, [], ◌∷◌, ◌++◌, length, slice_index_or, slice_set}
use Rattle.solve_board.specs.Counts.{total, times, IsAmong, once_below}
use Rattle.solve_board.specs.declared.states.BoardState.{BoardState}
use Rattle.solve_board.specs.declared.states.BoardStep.{BoardStep}
use Rattle.solve_board.specs.declared.states.BoardStep.TheVariants.{Claim, Offer, Look}

-- the list of one worker; an empty one where there is no such worker
abbrev pub list_of : List (List ℕ) → ℕ → List ℕ
list_of lists worker = slice_index_or lists worker []

-- the lists where a number is added to the list of one worker
abbrev pub with_number : List (List ℕ) → ℕ → ℕ → List (List ℕ)
with_number lists worker n = slice_set lists worker (list_of lists worker ++ n ∷ [])

-- the state after a step
abbrev pub stepped : BoardState → BoardStep → BoardState
stepped s (Claim worker) = record { next = s.next + 1; claims = with_number s.claims worker s.next; offers = s.offers }
stepped s (Offer worker job) = record { next = s.next; claims = s.claims; offers = with_number s.offers worker job }
stepped s (Look worker) = s

-- there is such a worker
abbrev pub IsWorker : BoardState → ℕ → Type 0
IsWorker s worker = (worker < length s.claims) × (worker < length s.offers)

-- what a state has to show for a step: the worker is there, the next number can be raised, and a job
-- that is offered was claimed by the worker
abbrev pub MayStep : BoardState → BoardStep → Type 0
MayStep s (Claim worker) = IsWorker s worker × (s.next < 2 ^ 64 - 1)
MayStep s (Offer worker job) = IsWorker s worker × IsAmong job (list_of s.claims worker)
MayStep s (Look worker) = IsWorker s worker

-- the claims of all workers together have each number below `next` once and no other, and each
-- worker's offers are among its claims
pub record IsInOrder (s : BoardState) : Type 0 where
  pub paired : length s.offers ≡ length s.claims
  pub claims : (n : ℕ) → total (times n) s.claims ≡ once_below s.next n
  pub offers : (worker n : ℕ) → IsAmong n (list_of s.offers worker) → IsAmong n (list_of s.claims worker)
