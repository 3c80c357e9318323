-- What was noted so far, and then what the places that are left give, is what all give.
use Rattle.std.proofs.Common.{◌≡◌, drop}
use Rattle.std.specs.List.{filter_map}
use Rattle.xhstt_references.specs.First.{first_of}
use Rattle.xhstt_references.specs.References.{repeated, repeated_after, roles_of}
use Rattle.xhstt_references.proofs.repeats.note_repeated_roles.Given as goal

abbrev pub invariant-loop-place : goal.invariant-loop-place
invariant-loop-place l =
    first_of l.first.at (repeated_after l.names (filter_map (λ r. r.role) (drop l.place-index l.place-items)))
    ≡ first_of l.fn.first.at (repeated (roles_of l.event))
