use Rattle.std.proofs.Common.{◌≡◌, take}
use Rattle.std.specs.Prelude.{All, IfSome}
use Rattle.std.specs.List.{flat_map}
use Rattle.resource_match.specs.Smallness.{IsSmall}
use Rattle.time_match.specs.Costs.{row}
use Rattle.time_match.specs.Leaders.{IsKept, tasks_of}
use Rattle.time_match.proofs.asking.pairs_with.Given as goal

abbrev pub invariant-loop-place : goal.invariant-loop-place
invariant-loop-place g l = record {
  pairs : l.pairs
      ≡ flat_map (row l.fn.engine.parts l.fn.engine.state l.fn.reads.resources.now) (take l.place (tasks_of l.fn.reads.read.now));
  small : All IsSmall l.pairs;
  same : l.engine ≡ l.fn.engine;
  kept : IfSome l.kept (IsKept l.fn.engine.parts l.fn.engine.state l.fn.reads.resources.now);
}
