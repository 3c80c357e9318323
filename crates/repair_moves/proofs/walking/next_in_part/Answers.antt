use Rattle.std.proofs.Common.{List, sym, subst}
use Rattle.khe_told.specs.declared.edits.Edit.{Edit}
use Rattle.repair_moves.specs.Walks.{IsNextIn}
use Rattle.repair_moves.proofs.WalkLaws as walks
use Rattle.repair_moves.proofs.walking.next_in_part.Goals as goal

pub returns-in-None-clause-next : goal.returns-in-None-clause-next
returns-in-None-clause-next c =
    let p = c.args.inst.now in let s = c.args.solution.now.slots in
    let P : List Edit → Type 0 = λ xs. IsNextIn p s c.args.rule.now c.args.point c.args.part xs
    c.next_from_item.result in
    subst P (sym (walks.left_search p s c.args.rule.now c.args.point c.args.part c.args.spot c.in-None.is))
    c.next_from_item.ensures.next

pub returns-in-None-next_of_item-clause-next : goal.returns-in-None-next_of_item-clause-next
returns-in-None-next_of_item-clause-next c =
    let p = c.args.inst.now in let s = c.args.solution.now.slots in
    let P : List Edit → Type 0 = λ xs. IsNextIn p s c.args.rule.now c.args.point c.args.part xs
    c.next_from_item-in-None-next_of_item.result in
    subst P (sym (walks.left_past p s c.args.rule.now c.args.point c.args.part c.in-Some.choice c.args.spot c.in-Some.is
    c.in-None-next_of_item.ensures.next))
    c.next_from_item-in-None-next_of_item.ensures.next

pub returns-in-Some-next_of_item-clause-next : goal.returns-in-Some-next_of_item-clause-next
returns-in-Some-next_of_item-clause-next c =
    let f = c.in-Some-next_of_item.ensures.next in
    walks.left_first c.args.inst.now c.args.solution.now.slots c.args.rule.now c.args.point c.args.part c.in-Some.choice
    f.choice c.in-Some-next_of_item.found.edit c.args.spot c.in-Some-next_of_item.found.spot
    c.in-Some.is f.spot f.next
