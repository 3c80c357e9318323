-- References one by one.
use Rattle.std.proofs.Common.{◌∙◌, ap, sym, ◌∷◌, []}
use Rattle.xhstt_references.specs.First.{first_of}
use Rattle.xhstt_references.specs.References.{unknown}
use Rattle.xhstt_references.proofs.FirstLemmas.{walk_step, walk_end}
use Rattle.xhstt_references.proofs.UnknownLemmas.{unknown_each}
use Rattle.xhstt_references.proofs.first.First.note_unknown_each.Goals as goal

pub loop-reference-init : goal.loop-reference-init
loop-reference-init c =
    ap (first_of c.args.self.now.at) (sym (unknown_each c.args.names.now _)
    ∙ ap (unknown c.args.names.now) c.as_slice-reference-items.ensures)

pub loop-reference-preserved : goal.loop-reference-preserved
loop-reference-preserved c =
    walk_step (λ r. unknown c.args.names.now (r ∷ [])) _ _ _ _ _ _ c.loop-reference-test.true c.reference-item.is
    c.note_unknown.ensures c.loop-reference.invariant

pub returns : goal.returns
returns c = walk_end (λ r. unknown c.args.names.now (r ∷ [])) _ _ _ _ c.loop-reference-test.false
    c.loop-reference.invariant
