-- The count so far, with that of the references that are left, is the whole.
use Rattle.std.proofs.Common.{◌≡◌, ◌+◌, ◌≤◌, drop, length}
use Rattle.xhstt_references.specs.Ids.{time_ids}
use Rattle.xhstt_resolve.specs.Members.{numbers_of}
use Rattle.xhstt_resolve.proofs.watching.named_times.Given as goal

abbrev pub invariant-loop-reference : goal.invariant-loop-reference
invariant-loop-reference l = record {
  counted : l.total + length (numbers_of (time_ids l.lookup.instance.now) (drop l.reference-index l.references))
      ≡ length (numbers_of (time_ids l.lookup.instance.now) l.references);
  small : l.total ≤ l.reference-index;
}
