use Rattle.std.proofs.Common.{◌≡◌}
use Rattle.khe_solution.specs.TaskRows.{AreAllPut, AreRows}
use Rattle.khe_solution.proofs.tasks.put_meet.Given as goal

abbrev pub invariant-loop-place : goal.invariant-loop-place
invariant-loop-place l = record {
  rows : AreRows l.rows;
  stride : l.rows.stride ≡ l.fn.rows.stride;
  put : AreAllPut l.fn.rows l.rows l.first l.place l.given l.is_in;
}
