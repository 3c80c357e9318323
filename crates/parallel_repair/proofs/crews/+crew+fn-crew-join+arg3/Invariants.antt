-- Each worker leaves one fewer to start.
use Rattle.std.proofs.Common.{◌+◌, ◌*◌}
use Rattle.parallel_repair.proofs.crews.+crew+fn-crew-join+arg3.Given as goal

abbrev pub decreases-crew : goal.decreases-crew
decreases-crew g l = 2 * l.shared.workers

abbrev pub decreases-join+arg3 : goal.decreases-join+arg3
decreases-join+arg3 g l = 2 * l.fewer + 1
