-- What the two words of a board and the views of its seats keep between any two steps. Word 0 is the
-- number that is claimed next. Word 1 is the least of all offers, or the number of jobs where there is none.
use Rattle.std.specs.Prelude.{◌≡◌, ℕ, ◌+◌, ◌^◌, ◌<◌, ◌≤◌, List, [], ◌∷◌, map}
use Rattle.khe_base.specs.declared.limits.TheConstants.{JOBS}
use mathlib.Core.Option.{some}
use lib.ListN.{get_elem?}
use Rattle.atomic_table.specs.Table.{State}
use Rattle.solve_board.specs.Counts.{weigh, weigh_below, total, one_from, times, IsAmong}
use Rattle.solve_board.specs.Runs.{Event, IsRun, ran, nobody}
use Rattle.solve_board.specs.declared.states.BoardState.{BoardState}
use Rattle.solve_board.specs.declared.views.BoardView.{BoardView}

-- some view offers n
abbrev pub IsOffered : List BoardView → ℕ → Type 0
IsOffered views n = 0 < total (λ v. times n v.offers) views

-- what each view keeps, where the least offer is `low`. `over` bounds its claims of no job, and a view
-- that was joined into another is empty
pub record IsView (jobs low : ℕ) (views : List BoardView) (v : BoardView) : Type 0 where
  pub offers : (n : ℕ) → IsAmong n v.offers → (n < jobs) × IsAmong n v.claims × (v.seen ≤ n)
  pub looks : (n : ℕ) → IsAmong n v.looks → (v.seen ≤ n) × IsOffered views n
  pub seen : low ≤ v.seen
  pub over : weigh (one_from jobs) v.claims ≤ v.weight
  pub spent : v.weight ≡ 0 → (v.claims ≡ []) × (v.offers ≡ []) × (v.looks ≡ [])
  pub jobs_are : 0 < v.weight → v.jobs ≡ jobs

-- the views as the workers of a board as plain data
abbrev pub state_of : ℕ → List BoardView → BoardState
state_of next views = record { next = next; claims = map (λ v. v.claims) views; offers = map (λ v. v.offers) views }

-- some run from the state without workers leads to this state
abbrev pub IsReached : BoardState → Type 0
IsReached s = (events : List Event) × IsRun nobody events × (ran nobody events ≡ s)

-- what all views keep. `claims` says that together they have each number below `next` once and no other:
-- however numbers are weighed, both weigh the same
pub record IsKept (jobs next low : ℕ) (views : List BoardView) : Type 0 where
  pub few : jobs ≤ JOBS
  pub claims : (h : ℕ → ℕ) → total (λ v. weigh h v.claims) views ≡ weigh_below h next
  pub lowest : low ≤ jobs
  pub shown : low < jobs → IsOffered views low
  pub budget : total (λ v. v.left + v.weight) views ≡ 2 ^ 32 + 1
  pub reached : IsReached (state_of next views)
  pub each : (by : ℕ) (v : BoardView) → get_elem? views by ≡ some v → IsView jobs low views v

-- the words and the views of a table under a board
abbrev pub Table : Type 0
Table = State (Unit {0}) BoardView

-- the rule of a board with this many jobs
abbrev pub Holds : ℕ → Table → Type 0
Holds jobs s = (next : ℕ) × (low : ℕ) × (s.words ≡ next ∷ low ∷ []) × IsKept jobs next low s.views
