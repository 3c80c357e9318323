-- As many fates as there were turns.
use Rattle.std.proofs.Common.{◌≡◌, replicate}
use Rattle.parallel_repair.specs.declared.answers.Fate.TheVariants.{Skipped}
use Rattle.parallel_repair.proofs.fates.all_skipped.Given as goal

abbrev pub invariant-loop : goal.invariant-loop
invariant-loop l = l.fates.items ≡ replicate l.counter (Skipped l.by)
