use Rattle.std.proofs.Common.{◌≡◌, ◌++◌, map, take}
use Rattle.std.specs.Prelude.{All}
use Rattle.resource_match.specs.Smallness.{IsSmall}
use Rattle.time_match.specs.Costs.{cost_with}
use Rattle.time_match.proofs.leaders.push_led.Given as goal

abbrev pub invariant-loop-k : goal.invariant-loop-k
invariant-loop-k g l = record {
  pairs : l.pairs ≡ l.fn.pairs
      ++ map (cost_with l.fn.engine.parts l.fn.engine.state l.of.task) (take l.k l.resources);
  small : All IsSmall l.pairs;
  same : l.engine ≡ l.fn.engine;
}
