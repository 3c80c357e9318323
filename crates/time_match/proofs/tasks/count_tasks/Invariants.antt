use Rattle.std.proofs.Common.{◌≡◌, ◌≤◌, length, take}
use Rattle.std.specs.List.{filter}
use Rattle.khe_instance.specs.Slots.{all_tasks}
use Rattle.time_match.specs.Tasks.{is_matched}
use Rattle.time_match.proofs.tasks.count_tasks.Given as goal

abbrev pub invariant-loop-number : goal.invariant-loop-number
invariant-loop-number l = record {
  counted : l.count
      ≡ length (filter (is_matched l.inst l.solution.slots l.time.0 l.rtype) (take l.number (all_tasks l.inst.events)));
  few : l.count ≤ l.number;
}
