use Rattle.std.proofs.Common.{◌≡◌, ℕ, length, get_or}
use Rattle.resource_match.specs.Smallness.{IsSmall}
use Rattle.resource_match.specs.Choices.{no_cost}
use Rattle.engine_tests.proofs.choices.hard.Given as goal

abbrev pub invariant-loop-part : goal.invariant-loop-part
invariant-loop-part l = record {
  long : length l.costs.items ≡ l.part-index;
  small : (i : ℕ) → IsSmall (get_or l.costs.items i no_cost);
}
