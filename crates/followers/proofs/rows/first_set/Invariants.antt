use Rattle.std.proofs.Common.{◌*◌, ◌≤◌}
use Rattle.khe_solution.specs.FreeBits.{AreClear}
use Rattle.followers.proofs.rows.first_set.Given as goal

abbrev pub invariant-loop-word : goal.invariant-loop-word
invariant-loop-word l = record {
  after : l.from ≤ 64 * l.word;
  clear : AreClear l.words l.from (64 * l.word);
}
