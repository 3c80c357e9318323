-- Where the tasks of the events so far begin, and how many they are.
use Rattle.std.proofs.Common.{◌≡◌, map}
use Rattle.std.specs.List.{range_with_len}
use Rattle.khe_instance.specs.SlotTables.{tasks_before}
use Rattle.khe_instance.proofs.slots.tasks_of.Given as goal

abbrev pub invariant-loop-event : goal.invariant-loop-event
invariant-loop-event l = (l.firsts.items ≡ map (tasks_before l.events) (range_with_len 0 l.event-index))
    × (l.count ≡ tasks_before l.events l.event-index)
