-- What the items that are left add to the names and to what was noted is what all add.
use Rattle.std.proofs.Common.{◌≡◌, [], map, drop}
use Rattle.xhstt_references.specs.First.{first_of}
use Rattle.xhstt_references.specs.References.{repeated, repeated_after}
use Rattle.xhstt_references.proofs.RepeatsLemmas.{all_names}
use Rattle.xhstt_references.proofs.repeats.names_of.Given as goal

abbrev pub invariant-loop-item : goal.invariant-loop-item
invariant-loop-item g l =
    let ids = map g.T.HasId.id l.items in
    let rest = map g.T.HasId.id (drop l.item-index l.items) in
    record {
      names : all_names l.names rest ≡ all_names [] ids;
      first : first_of l.first.at (repeated_after l.names rest) ≡ first_of l.fn.first.at (repeated ids);
    }
