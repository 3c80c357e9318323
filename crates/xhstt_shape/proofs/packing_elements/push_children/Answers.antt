-- The resource of one more element.
use Rattle.std.proofs.Common.{◌∙◌, ◌++◌, ◌∷◌, [], ap, append_assoc, map, sym}
use Rattle.xhstt_shape.specs.Packed.{givens_at}
use Rattle.xhstt_shape.specs.Values as spec
use Rattle.xhstt_shape.proofs.PackedLemmas.{longer-longer}
use Rattle.xhstt_shape.proofs.packing_elements.push_children.Goals as goal

pub loop-next-preserved : goal.loop-next-preserved
loop-next-preserved c =
    let old = c.loop-next in
    let before = givens_at old.letters.items old.givens.items in
    let later = map spec.given (spec.elements c.next.new.self) in
    record {
      longer = longer-longer c.args.letters.now.items old.letters.items c.push_given_of.new.letters.items
          old.invariant.longer c.push_given_of.ensures.longer;
      more = longer-longer c.args.givens.now.items old.givens.items c.push_given_of.new.givens.items
          old.invariant.more c.push_given_of.ensures.more;
      inside = c.push_given_of.ensures.inside;
      is = ap (λ l. l ++ later) c.in_ok-push_given_of.ensures.is
          ∙ append_assoc before (spec.given c.in-Some.next ∷ []) later
          ∙ ap (λ r. before ++ map spec.given (spec.elements r)) (sym c.in-Some.ensures.value)
          ∙ old.invariant.is;
    }
