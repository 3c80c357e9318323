-- What there is so far, and then what the entries that are left name, is what all name.
use Rattle.std.proofs.Common.{◌≡◌, ◌++◌, length}
use Rattle.std.specs.List.{flat_map}
use Rattle.xhstt_references.specs.Directories.{named_by}
use Rattle.xhstt_references.specs.First.{first_of}
use Rattle.xhstt_references.specs.Followed.{given_in, named_from}
use Rattle.xhstt_references.specs.References.{unknown_in_entry}
use Rattle.xhstt_references.proofs.following.follow_entries.Given as goal

abbrev pub invariant-loop-entry : goal.invariant-loop-entry
invariant-loop-entry l = record {
  named : l.named ++ named_from l.names (length l.given) l.rest
      ≡ l.fn.named ++ named_from l.names (length l.fn.given) l.entries;
  given : l.given ++ flat_map (given_in l.names) l.rest ≡ l.fn.given ++ flat_map (given_in l.names) l.entries;
  first : first_of l.first.at (flat_map (unknown_in_entry (named_by l.names)) l.rest)
      ≡ first_of l.fn.first.at (flat_map (unknown_in_entry (named_by l.names)) l.entries);
}

abbrev pub decreases-loop-entry : goal.decreases-loop-entry
decreases-loop-entry l = length l.rest
