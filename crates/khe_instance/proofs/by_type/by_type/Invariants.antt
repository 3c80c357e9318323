-- The resources so far are listed.
use Rattle.khe_instance.specs.ByType.{is_of_type}
use Rattle.khe_instance.specs.Listing.{AreListed}
use Rattle.khe_instance.proofs.by_type.by_type.Given as goal

abbrev pub invariant-loop-number : goal.invariant-loop-number
invariant-loop-number l = AreListed (is_of_type l.parts.resources) l.parts.types l.number l.lists
