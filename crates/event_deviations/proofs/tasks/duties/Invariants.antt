use Rattle.std.proofs.Common.{◌≡◌, ◌++◌, drop}
use Rattle.khe_instance.specs.Running.{duties}
use Rattle.event_deviations.proofs.Beside.{Beside}
use Rattle.event_deviations.proofs.tasks.duties.Given as goal

-- what is made and what the rest will make is the whole, and the rest of the tasks stands beside the
-- rest of the meets
abbrev pub invariant-loop-meet : goal.invariant-loop-meet
invariant-loop-meet l = record {
  made : l.duties ++ duties (drop l.meet-index l.meets) l.rest ≡ duties l.meets l.tasks;
  beside : Beside l.inst (drop l.meet-index l.meets) l.rest;
}
