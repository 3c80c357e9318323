-- The meets and the tasks so far, with those of the events that are left, are those of all events.
use Rattle.std.proofs.Common.{◌≡◌, ◌++◌, drop}
use Rattle.std.specs.List.{enumerate_from, flat_map}
use Rattle.xhstt_completion.specs.Completed.{meets_at, tasks_at}
use Rattle.xhstt_completion.proofs.states.state_of.Given as goal

abbrev pub invariant-loop-event : goal.invariant-loop-event
invariant-loop-event l =
    let later = enumerate_from l.event (drop l.event l.inst.events) in
    record {
      meets : l.timetable.meets ++ flat_map (meets_at l.inst l.entries) later
          ≡ flat_map (meets_at l.inst l.entries) (enumerate_from 0 l.inst.events);
      tasks : l.timetable.tasks ++ flat_map (tasks_at l.inst l.entries) later
          ≡ flat_map (tasks_at l.inst l.entries) (enumerate_from 0 l.inst.events);
    }
