use Rattle.std.proofs.Common.{◌∙◌}
use Rattle.repair_moves.proofs.WalkLaws as walks
use Rattle.repair_moves.proofs.walking.next_from_item.Goals as goal

pub loop-item-preserved : goal.loop-item-preserved
loop-item-preserved c = record {
  same =
      c.loop-item.invariant.same
      ∙ walks.part_empty c.args.inst.now c.args.solution.now.slots c.args.rule.now c.args.point c.args.part
      c.loop-item.from c.in-Some.item c.in-Some.ensures.next c.in-None.ensures.next;
  bare = c.in-None.ensures.next;
}

pub returns-in-Some-next_unless_alike-clause-next : goal.returns-in-Some-next_unless_alike-clause-next
returns-in-Some-next_unless_alike-clause-next c =
    let f = c.in-Some-next_unless_alike.ensures.next in
    c.loop-item.invariant.same
    ∙ walks.part_first c.args.inst.now c.args.solution.now.slots c.args.rule.now c.args.point c.args.part
    c.loop-item.from c.in-Some.item f.choice c.in-Some-next_unless_alike.found.edit c.in-Some-next_unless_alike.found.spot
    c.in-Some.ensures.next f.spot f.next

pub loop-item-smaller : goal.loop-item-smaller
loop-item-smaller c = walks.items_fewer c.args.inst.now c.args.solution.now.slots c.args.rule.now c.args.point
    c.args.part c.loop-item.from c.in-Some.item c.in-Some.ensures.next

pub returns-clause-next : goal.returns-clause-next
returns-clause-next c =
    c.loop-item.invariant.same ∙ walks.part_none c.args.inst.now c.args.solution.now.slots c.args.rule.now c.args.point
    c.args.part c.loop-item.from c.in_default.ensures.next
