-- The entries from this number on are linked.
use Rattle.std.proofs.Common.{◌≡◌, ◌≤◌, length}
use Rattle.xhstt_completion.proofs.ChainLemmas.{AreChains}
use Rattle.xhstt_completion.proofs.chains.link.Given as goal

abbrev pub invariant-loop-at : goal.invariant-loop-at
invariant-loop-at l = record {
  within : l.at ≤ length l._entries;
  firsts : length l.firsts ≡ length l._inst.events;
  nexts : length l.nexts ≡ length l._entries;
  chains : AreChains l._inst l._entries l.firsts l.nexts l.at;
}

abbrev pub decreases-loop-at : goal.decreases-loop-at
decreases-loop-at l = l.at
