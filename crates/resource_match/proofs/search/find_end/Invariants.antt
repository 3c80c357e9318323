use Rattle.resource_match.specs.Exits.{AreWays}
use Rattle.resource_match.specs.Trees.{IsTree, count_of}
use Rattle.resource_match.proofs.search.find_end.Given as goal

abbrev pub invariant-loop-near : goal.invariant-loop-near
invariant-loop-near l = record {
  ways : AreWays l.costs l.settled.owners.now l.room.ways.items;
  tree : IsTree l.costs l.task l.settled.chosen.now l.settled.owners.now l.settled.prices.now l.room.waiting.items
      l.room.closed.items l.room.labels.items l.end;
}

abbrev pub decreases-loop-near : goal.decreases-loop-near
decreases-loop-near l = count_of l.room.waiting.items
