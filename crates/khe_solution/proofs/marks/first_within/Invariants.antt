use Rattle.std.proofs.Common.{ℕ, ◌≡◌, ◌*◌, ◌<◌, ◌≤◌, false}
use Rattle.khe_base.specs.Bits.{is_set}
use Rattle.khe_solution.proofs.marks.first_within.Given as goal

abbrev pub invariant-loop-word : goal.invariant-loop-word
invariant-loop-word l = record {
  after : l.from ≤ 64 * l.word;
  clear : (m : ℕ) → l.from ≤ m → m < 64 * l.word → m < l.end → is_set l.words m ≡ false;
}
