-- What there is so far, and then what the resources that are left give, is what all give.
use Rattle.std.proofs.Common.{◌≡◌, ◌++◌, length}
use Rattle.std.specs.List.{flat_map}
use Rattle.xhstt_references.specs.Directories.{named_by}
use Rattle.xhstt_references.specs.First.{first_of}
use Rattle.xhstt_references.specs.Followed.{numbered_in}
use Rattle.xhstt_references.specs.References.{unknown_in_given}
use Rattle.xhstt_references.proofs.following.follow_givens.Given as goal

abbrev pub invariant-loop-one : goal.invariant-loop-one
invariant-loop-one l = record {
  given : l.given ++ numbered_in l.names l.rest ≡ l.fn.given ++ numbered_in l.names l.fn.givens;
  first : first_of l.first.at (flat_map (unknown_in_given (named_by l.names)) l.rest)
      ≡ first_of l.fn.first.at (flat_map (unknown_in_given (named_by l.names)) l.fn.givens);
}

abbrev pub decreases-loop-one : goal.decreases-loop-one
decreases-loop-one l = length l.rest
