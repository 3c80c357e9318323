-- What was added, and then the resources that are left, are those of all.
use Rattle.std.proofs.Common.{◌≡◌, ◌++◌, drop, All}
use Rattle.xhstt_shape.specs.Packed.{IsGivenIn, IsLonger, givens_at}
use Rattle.xhstt_shape.proofs.packing.push_givens.Given as goal

abbrev pub invariant-loop-given : goal.invariant-loop-given
invariant-loop-given l = record {
  longer : IsLonger l.fn.letters.items l.letters.items;
  more : IsLonger l.fn.givens.items l.givens.items;
  inside : All (IsGivenIn l.letters.items) l.givens.items;
  is : givens_at l.letters.items l.givens.items ++ drop l.given-index l.list
      ≡ givens_at l.fn.letters.items l.fn.givens.items ++ l.list;
}
