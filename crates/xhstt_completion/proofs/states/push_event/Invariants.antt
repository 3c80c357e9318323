-- The entries of the event that are left.
use Rattle.xhstt_completion.proofs.EventLemmas.{IsLeft}
use Rattle.std.proofs.Common.{◌-◌, length}
use Rattle.xhstt_completion.proofs.states.push_event.Given as goal

abbrev pub invariant-loop-at : goal.invariant-loop-at
invariant-loop-at l = IsLeft l.inst l.entries l.chains.nexts.items l.event l.number.0 l.at l.slot l.left
    l.timetable.meets l.timetable.tasks l.fn.timetable.meets l.fn.timetable.tasks

abbrev pub decreases-loop-at : goal.decreases-loop-at
decreases-loop-at l = length l.entries - l.at
