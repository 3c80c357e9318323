use Rattle.std.proofs.Common.{◌≡◌, map, take}
use Rattle.std.specs.Prelude.{All}
use Rattle.resource_match.specs.Smallness.{IsSmall}
use Rattle.time_match.specs.Wishes.{rest_in}
use Rattle.time_match.proofs.leaders.leader_of.Given as goal

abbrev pub invariant-loop-k : goal.invariant-loop-k
invariant-loop-k g l = record {
  rests : l.rests ≡ map (rest_in l.engine.parts l.engine.state l.of.task) (take l.k l.resources);
  small : All IsSmall l.rests;
}
