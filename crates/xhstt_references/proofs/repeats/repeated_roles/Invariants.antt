-- What was noted so far, and then what the events that are left give, is what all give.
use Rattle.std.proofs.Common.{◌≡◌, None, drop}
use Rattle.std.specs.List.{flat_map}
use Rattle.xhstt_references.specs.First.{first_of}
use Rattle.xhstt_references.specs.References.{repeated, roles_of}
use Rattle.xhstt_references.proofs.repeats.repeated_roles.Given as goal

abbrev pub invariant-loop-event : goal.invariant-loop-event
invariant-loop-event l =
    first_of l.first.at (flat_map (λ e. repeated (roles_of e)) (drop l.event-index l.events))
    ≡ first_of None (flat_map (λ e. repeated (roles_of e)) l.events)
