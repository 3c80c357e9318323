-- Items one by one.
use Rattle.xhstt_references.proofs.FirstLemmas.{walk_step, walk_end}
use Rattle.xhstt_references.proofs.looking_up.note_unknown_in.Goals as goal

pub loop-item-preserved : goal.loop-item-preserved
loop-item-preserved g c =
    walk_step (g.T.Refer.unknown c.args.directory.now) _ _ _ _ _ _ c.loop-item-test.true c.item-item.is
    c.note_unknown.ensures c.loop-item.invariant

pub returns : goal.returns
returns g c = walk_end (g.T.Refer.unknown c.args.directory.now) _ _ _ _ c.loop-item-test.false c.loop-item.invariant
