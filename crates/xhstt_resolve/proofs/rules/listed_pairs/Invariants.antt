-- The pairs so far.
use Rattle.std.proofs.Common.{◌≡◌, take, map}
use Rattle.xhstt_resolve.specs.Rules.{pair_of}
use Rattle.xhstt_resolve.proofs.rules.listed_pairs.Given as goal

abbrev pub invariant-loop-pair : goal.invariant-loop-pair
invariant-loop-pair l = l.made ≡ map (pair_of l.lookup.instance.now) (take l.pair-index l.pairs)
