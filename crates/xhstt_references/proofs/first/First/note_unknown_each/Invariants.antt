-- What was noted so far, and then what the references that are left give, is what all give.
use Rattle.std.proofs.Common.{◌≡◌, ◌∷◌, [], drop}
use Rattle.std.specs.List.{flat_map}
use Rattle.xhstt_references.specs.First.{first_of}
use Rattle.xhstt_references.specs.References.{unknown}
use Rattle.xhstt_references.proofs.first.First.note_unknown_each.Given as goal

abbrev pub invariant-loop-reference : goal.invariant-loop-reference
invariant-loop-reference l =
    first_of l.self.at (flat_map (λ r. unknown l.names (r ∷ [])) (drop l.reference-index l.reference-items))
    ≡ first_of l.fn.self.at (unknown l.names l.fn.references)
