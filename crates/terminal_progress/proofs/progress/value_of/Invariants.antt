-- The words that are left get fewer.
use Rattle.std.proofs.Common.{length}
use Rattle.terminal_progress.proofs.progress.value_of.Given as goal

abbrev pub decreases-loop-rest : goal.decreases-loop-rest
decreases-loop-rest l = length l.rest
