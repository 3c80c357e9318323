-- What became of all jobs, given which of them ran.
use Rattle.std.specs.Prelude.{ℕ, ◌≡◌, ◌<◌, List, length, slice_get, Some}
use Rattle.solve_board.specs.Counts.{IsAmong, times}
use Rattle.parallel_repair.specs.Solved.{HasRun}
use Rattle.parallel_repair.specs.Worked.{jobs_of}
use Rattle.parallel_repair.specs.declared.answers.Answer.{Answer}
use Rattle.parallel_repair.specs.declared.answers.Fate.{Fate}
use Rattle.parallel_repair.specs.declared.answers.Fate.TheVariants.{Skipped}
use Rattle.parallel_repair.specs.declared.answers.Row.{Row}

-- the jobs of the rows ran, and each other one was left out for one
pub record AreFates (answer : ℕ → Answer) (jobs : ℕ) (rows : List Row) (by : ℕ) (fates : List Fate) : Type 0 where
  pub count : length fates ≡ jobs
  pub ran : (n : ℕ) → IsAmong n (jobs_of rows) → HasRun answer fates n
  pub skipped : (n : ℕ) → n < jobs → times n (jobs_of rows) ≡ 0 → slice_get fates n ≡ Some (Skipped by)
