-- A worker's seat while it takes one job after another.
use Rattle.std.specs.Prelude.{ℕ, ◌≡◌, ◌+◌, ◌<◌, ◌≤◌, Bool, true, false, Option, List, [], ◌∷◌, ◌++◌, if◌then◌else◌}
use Rattle.std.specs.Prelude.{length}
use Rattle.solve_board.specs.Counts.{IsAmong}
use Rattle.solve_board.specs.declared.views.BoardView.{BoardView}
use Rattle.khe_base.specs.declared.sums.Totals.{Totals}
use Rattle.parallel_repair.specs.Ranks.{is_free}
use Rattle.parallel_repair.specs.Worked.{IsWorked}
use Rattle.parallel_repair.specs.declared.answers.Answer.{Answer}
use Rattle.parallel_repair.specs.declared.answers.Best.{Best}
use Rattle.parallel_repair.specs.declared.answers.Row.{Row}

-- what was done of the jobs is what the seat knows
pub record IsViewWorked (answer : ℕ → Answer) (jobs : ℕ) (v : BoardView) (rows : List Row) (best : Option Best) : Type
    0 where
  pub jobs_are : v.jobs ≡ jobs
  pub weight : 0 < v.weight
  pub worked : IsWorked answer jobs v.claims v.offers v.looks rows best

-- how many seats it may still split off, and how many it stands for
abbrev pub budget : BoardView → ℕ
budget v = v.left + v.weight

-- it is at work: it has claimed jobs alone
pub record IsAtWork (answer : ℕ → Answer) (jobs left : ℕ) (v : BoardView) (rows : List Row) (best : Option Best) : Type
    0 where
  pub is : IsViewWorked answer jobs v rows best
  pub budgeted : budget v ≡ left
  pub below : (n : ℕ) → IsAmong n v.claims → n < jobs

-- it has ended: it has claimed a number that is no job
pub record HasEnded (answer : ℕ → Answer) (jobs left : ℕ) (v : BoardView) (rows : List Row) (best : Option Best) : Type
    0 where
  pub is : IsViewWorked answer jobs v rows best
  pub budgeted : budget v ≡ left
  pub past : (n : ℕ) × IsAmong n v.claims × (jobs ≤ n)

-- it goes on with one claim more, or has ended
abbrev pub HasTaken : (ℕ → Answer) → ℕ → BoardView → BoardView → List Row → Option Best → Bool → Type 0
HasTaken answer jobs v w rows best true = IsAtWork answer jobs (budget v) w rows best × (length v.claims < jobs)
    × (length w.claims ≡ length v.claims + 1)
HasTaken answer jobs v w rows best false = HasEnded answer jobs (budget v) w rows best

-- a look leaves all but the looks and what is seen, and takes no look away
abbrev pub HasLooked : BoardView → BoardView → Type 0
HasLooked v w = (looks : List ℕ) × (seen : ℕ) × (w ≡ record v { looks = looks; seen = seen })
    × ((n : ℕ) → IsAmong n v.looks → IsAmong n looks)

-- a look answered a number below the job
abbrev pub HasSeenLower : BoardView → ℕ → Type 0
HasSeenLower w job = (n : ℕ) × IsAmong n w.looks × (n < job)

-- the job is offered where it costs nothing, and all but the offers and what is seen stays
abbrev pub HasOffered : BoardView → ℕ → Totals → BoardView → Type 0
HasOffered v job t w = (seen : ℕ)
    × (w ≡ record v { offers = if is_free t then v.offers ++ job ∷ [] else v.offers; seen = seen })

-- what a worker notes of a job that it ran
abbrev pub row : ℕ → Answer → Row
row job a = record { job = job; totals = a.totals }

abbrev pub best_of : ℕ → Answer → Best
best_of job a = record { job = job; totals = a.totals; plain = a.plain }
