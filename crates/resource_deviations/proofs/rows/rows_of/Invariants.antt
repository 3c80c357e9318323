-- The resources of the tasks so far have rows of their own.
use Rattle.std.proofs.Common.{◌≡◌, ◌+◌, ◌≤◌, length, take, All}
use Rattle.resource_deviations.specs.Rows.{AreRows, HasRow}
use Rattle.resource_deviations.proofs.rows.rows_of.Given as goal

abbrev pub invariant-loop-duty : goal.invariant-loop-duty
invariant-loop-duty l = record {
  rows : AreRows l.of.items l.count;
  size : length l.of.items ≡ l.resources;
  there : All (HasRow l.of.items) (take l.duty-index l.duties);
  few : l.count ≤ l.duty-index + 1;
}
