-- Each job ran, or was left out for a lower one that costs nothing; the answer is the result that comes first.
use Rattle.std.specs.Prelude.{ℕ, ◌≡◌, ◌<◌, ◌⊎◌, false, List, length, slice_get, Some}
use Rattle.parallel_repair.specs.Ranks.{is_before, CostsNothing}
use Rattle.parallel_repair.specs.declared.answers.Answer.{Answer}
use Rattle.parallel_repair.specs.declared.answers.Fate.{Fate}
use Rattle.parallel_repair.specs.declared.answers.Fate.TheVariants.{Ran, Skipped}
use Rattle.parallel_repair.specs.declared.answers.Solved.{Solved}

-- the job ran, and came to its totals
abbrev pub HasRun : (ℕ → Answer) → List Fate → ℕ → Type 0
HasRun answer fates n = slice_get fates n ≡ Some (Ran (answer n).totals)

-- the job was left out for a lower one, which ran, and is the least of all jobs that cost nothing
pub record IsLeftOut (answer : ℕ → Answer) (fates : List Fate) (n : ℕ) : Type 0 where
  pub by : ℕ
  pub is : slice_get fates n ≡ Some (Skipped by)
  pub lower : by < n
  pub ran : HasRun answer fates by
  pub free : CostsNothing (answer by).totals
  pub least : (m : ℕ) → m < by → CostsNothing (answer m).totals → ⊥

-- the result is that of the job that comes first of all jobs, also of the jobs that were left out
pub record IsSolved (answer : ℕ → Answer) (jobs : ℕ) (s : Solved) : Type 0 where
  pub count : length s.fates ≡ jobs
  pub fates : (n : ℕ) → n < jobs → HasRun answer s.fates n ⊎ IsLeftOut answer s.fates n
  pub within : s.job < jobs
  pub ran : HasRun answer s.fates s.job
  pub totals : s.totals ≡ (answer s.job).totals
  pub plain : s.plain ≡ (answer s.job).plain
  pub least : (n : ℕ) → n < jobs → is_before (answer n).totals n s.totals s.job ≡ false
