use Rattle.std.proofs.Common.{◌≡◌, ◌≤◌, ◌-◌}
use Rattle.followers.specs.Carrying.{AreLeft}
use Rattle.followers.specs.Links.{count_of}
use Rattle.followers.specs.Records.{IsAfter}
use Rattle.followers.proofs.carrying.carry_all.Given as goal

abbrev pub invariant-loop-left : goal.invariant-loop-left
invariant-loop-left g l = record {
  most : l.left ≤ count_of l.links.ties.now l.fn.leader.0;
  left : AreLeft l.links.ties.now l.links.next.now l.links.prev.now l.fn.leader.0 l.start l.at l.left
      l.fn.engine.state.slots l.engine.state.slots;
  grouping : l.engine.state.grouping ≡ l.fn.engine.state.grouping;
  after : IsAfter (count_of l.links.ties.now l.fn.leader.0 - l.left) l.fn.engine l.engine;
}

abbrev pub decreases-loop-left : goal.decreases-loop-left
decreases-loop-left g l = l.left
