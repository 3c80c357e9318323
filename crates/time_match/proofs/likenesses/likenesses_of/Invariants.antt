use Rattle.std.proofs.Common.{◌≡◌, take}
use Rattle.std.specs.Prelude.{All}
use Rattle.time_match.specs.Leaders.{IsReadFrom, tasks_of}
use Rattle.time_match.proofs.likenesses.likenesses_of.Given as goal

abbrev pub invariant-loop-task : goal.invariant-loop-task
invariant-loop-task l = record {
  tasks : tasks_of l.read ≡ take l.task-index l.tasks;
  are : All (IsReadFrom l.inst l.solution.slots) l.read;
}
