-- What was added, and then the resources of the elements that are left, are those of all.
use Rattle.std.proofs.Common.{◌≡◌, ◌++◌, map, All}
use Rattle.xhstt_text.specs.Handles.{size}
use Rattle.xhstt_shape.specs.Packed.{IsGivenIn, IsLonger, givens_at}
use Rattle.xhstt_shape.specs.Values as spec
use Rattle.xhstt_shape.proofs.packing_elements.push_children.Given as goal

abbrev pub invariant-loop-next : goal.invariant-loop-next
invariant-loop-next l = record {
  longer : IsLonger l.fn.letters.items l.letters.items;
  more : IsLonger l.fn.givens.items l.givens.items;
  inside : All (IsGivenIn l.letters.items) l.givens.items;
  is : givens_at l.letters.items l.givens.items ++ map spec.given (spec.elements l.rest)
      ≡ givens_at l.fn.letters.items l.fn.givens.items ++ map spec.given (spec.elements l.fn.element.kids);
}

abbrev pub decreases-loop-next : goal.decreases-loop-next
decreases-loop-next l = size l.rest
