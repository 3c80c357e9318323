-- The resource goes last.
use Rattle.std.proofs.Common.{◌∙◌, All, ap, subst, sym}
use Rattle.xhstt_shape.specs.Packed.{IsGivenIn, givens_at}
use Rattle.xhstt_shape.specs.Values as spec
use Rattle.xhstt_shape.proofs.PackedLemmas.{givens-in-push, givens-push}
use Rattle.xhstt_shape.proofs.packing_elements.push_given_of.Goals as goal

pub returns-clause-inside : goal.returns-clause-inside
returns-clause-inside c =
    let ys = c.pack_given_of.new.letters.items in
    subst (All (IsGivenIn ys)) (sym c.in_ok-push.ensures.items)
    (givens-in-push c.args.letters.now.items ys c.args.givens.now.items c.in_ok-packed.packed c.pack_given_of.ensures.longer
    c.requires c.in_ok-packed.ensures.inside)

pub returns-clause-is : goal.returns-clause-is
returns-clause-is c =
    let ys = c.pack_given_of.new.letters.items in
    ap (givens_at ys) c.in_ok-push.ensures.items
    ∙ givens-push c.args.letters.now.items ys c.args.givens.now.items c.in_ok-packed.packed (spec.given c.args.element.now)
    c.pack_given_of.ensures.longer c.requires c.in_ok-packed.ensures.is
