-- The tasks so far and those of the places that are left are those of all places.
use Rattle.std.proofs.Common.{◌≡◌, ◌++◌, map, drop}
use Rattle.std.specs.List.{enumerate_from}
use Rattle.xhstt_completion.specs.Completed.{task_of}
use Rattle.xhstt_completion.proofs.states.push_tasks.Given as goal

abbrev pub invariant-loop-number : goal.invariant-loop-number
invariant-loop-number l =
    l.tasks ++ map (task_of l.inst l.meet.0 l.given) (enumerate_from l.number (drop l.number l.places))
    ≡ l.fn.tasks ++ map (task_of l.inst l.meet.0 l.given) (enumerate_from 0 l.places)
