-- What was noted so far, and then what the events that are left give, is what all give.
use Rattle.std.proofs.Common.{◌≡◌, None, drop}
use Rattle.std.specs.List.{flat_map}
use Rattle.xhstt_references.specs.First.{first_of}
use Rattle.xhstt_references.specs.References.{off_end}
use Rattle.xhstt_references.proofs.instances.event_off_end.Given as goal

abbrev pub invariant-loop-event : goal.invariant-loop-event
invariant-loop-event l =
    first_of l.first.at (flat_map (off_end l.directory) (drop l.event-index l.events))
    ≡ first_of None (flat_map (off_end l.directory) l.events)
