-- Each worker leaves one fewer to start.
use Rattle.std.proofs.Common.{◌+◌, ◌*◌}
use Rattle.engine_tests.proofs.drawing.+draw_together+fn-draw_together-join+arg3.Given as goal

abbrev pub decreases-draw_together : goal.decreases-draw_together
decreases-draw_together g l = 2 * l.workers

abbrev pub decreases-join+arg3 : goal.decreases-join+arg3
decreases-join+arg3 g l = 2 * l.fewer + 1
