-- What one worker, or several together, have done of the jobs.
use Rattle.std.specs.Prelude.{ℕ, ◌≡◌, ◌<◌, ◌⊎◌, false, Option, Some, None, List, [], map}
use Rattle.std.specs.List.{AllByRecursion}
use Rattle.solve_board.specs.Counts.{IsAmong}
use Rattle.parallel_repair.specs.Ranks.{is_before, CostsNothing}
use Rattle.parallel_repair.specs.declared.answers.Answer.{Answer}
use Rattle.parallel_repair.specs.declared.answers.Best.{Best}
use Rattle.parallel_repair.specs.declared.answers.Row.{Row}

abbrev pub jobs_of : List Row → List ℕ
jobs_of rows = map (λ r. r.job) rows

-- a row tells of a job what it came to
abbrev pub IsRow : (ℕ → Answer) → ℕ → Row → Type 0
IsRow answer jobs r = (r.job < jobs) × (r.totals ≡ (answer r.job).totals)

-- the best is the least result of these jobs
abbrev pub IsBest : (ℕ → Answer) → List ℕ → Option Best → Type 0
IsBest answer ns None = ns ≡ []
IsBest answer ns (Some b) = IsAmong b.job ns × (b.totals ≡ (answer b.job).totals) × (b.plain ≡ (answer b.job).plain)
    × ((n : ℕ) → IsAmong n ns → is_before (answer n).totals n b.totals b.job ≡ false)

-- the job ran, or a look answered a lower one
abbrev pub IsDone : List ℕ → List ℕ → ℕ → Type 0
IsDone looks ran n = IsAmong n ran ⊎ ((m : ℕ) × IsAmong m looks × (m < n))

-- each job that was claimed is done, and the jobs that ran and cost nothing are the jobs that were offered
pub record IsWorked (answer : ℕ → Answer) (jobs : ℕ) (claims offers looks : List ℕ) (rows : List Row)
    (best : Option Best) : Type 0 where
  pub done : (n : ℕ) → IsAmong n claims → n < jobs → IsDone looks (jobs_of rows) n
  pub rows_are : AllByRecursion (IsRow answer jobs) rows
  pub zeros : (n : ℕ) → IsAmong n (jobs_of rows) → CostsNothing (answer n).totals → IsAmong n offers
  pub offers_are : (n : ℕ) → IsAmong n offers → IsAmong n (jobs_of rows) × CostsNothing (answer n).totals
  pub best_is : IsBest answer (jobs_of rows) best
