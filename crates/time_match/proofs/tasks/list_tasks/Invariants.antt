use Rattle.std.proofs.Common.{◌≡◌, take}
use Rattle.std.specs.List.{filter}
use Rattle.khe_instance.specs.Slots.{all_tasks}
use Rattle.time_match.specs.Tasks.{is_matched}
use Rattle.time_match.proofs.tasks.list_tasks.Given as goal

abbrev pub invariant-loop-number : goal.invariant-loop-number
invariant-loop-number l = l.tasks
    ≡ filter (is_matched l.inst l.solution.slots l.time.0 l.rtype) (take l.number (all_tasks l.inst.events))
