use Rattle.std.proofs.Common.{◌≡◌, ◌++◌, map, take}
use Rattle.std.specs.Prelude.{All}
use Rattle.resource_match.specs.Smallness.{IsSmall}
use Rattle.time_match.specs.Costs.{cost_with}
use Rattle.time_match.proofs.asking.push_row.Given as goal

abbrev pub invariant-loop-resource : goal.invariant-loop-resource
invariant-loop-resource g l = record {
  pairs : l.pairs ≡ l.fn.pairs
      ++ map (cost_with l.fn.engine.parts l.fn.engine.state l.task) (take l.resource-index l.resources);
  small : All IsSmall l.pairs;
  same : l.engine ≡ l.fn.engine;
}
