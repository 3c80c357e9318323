-- The fates are those of the rows so far.
use Rattle.std.proofs.Common.{◌≡◌, ℕ, length, take, All}
use Rattle.parallel_repair.specs.Worked.{IsRow}
use Rattle.parallel_repair.specs.Fates.{AreFates}
use Rattle.parallel_repair.specs.declared.answers.Answer.{Answer}
use Rattle.parallel_repair.proofs.fates.fates_of.Given as goal

abbrev pub invariant-loop-row : goal.invariant-loop-row
invariant-loop-row l = record {
  counted : length l.fates.items ≡ l.jobs;
  so_far : (answer : ℕ → Answer) → All (IsRow answer l.jobs) l.rows
      → AreFates answer l.jobs (take l.row-index l.rows) l.by l.fates.items;
}
