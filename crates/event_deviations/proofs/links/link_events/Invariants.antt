use Rattle.std.proofs.Common.{◌≡◌, length, take}
use Rattle.event_deviations.proofs.LinkLemmas.{IsLinked}
use Rattle.event_deviations.proofs.links.link_events.Given as goal

abbrev pub invariant-loop-rank : goal.invariant-loop-rank
invariant-loop-rank l = record {
  some_long : length l.some ≡ length l.fn.some;
  leading_long : length l.leading ≡ length l.fn.leading;
  linked : IsLinked l.index.meets (take l.rank l.events) l.some l.leading l.whole;
}
