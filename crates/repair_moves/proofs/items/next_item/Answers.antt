use Rattle.repair_moves.proofs.ItemLaws as laws
use Rattle.repair_moves.proofs.items.next_item.Goals as goal

pub returns-in-TimeMoves-clause-small : goal.returns-in-TimeMoves-clause-small
returns-in-TimeMoves-clause-small c = laws.meet_small c.args.inst.now _ c.args.from c.next_meet.result
    c.facts.ensures.made c.next_meet.ensures

pub returns-in-SwapMoves-clause-small : goal.returns-in-SwapMoves-clause-small
returns-in-SwapMoves-clause-small c = laws.meet_small c.args.inst.now _ c.args.from c.next_meet-in-SwapMoves.result
    c.facts.ensures.made c.next_meet-in-SwapMoves.ensures

pub returns-in-Cuts-clause-small : goal.returns-in-Cuts-clause-small
returns-in-Cuts-clause-small c = laws.meet_small c.args.inst.now _ c.args.from c.next_meet-in-Cuts.result
    c.facts.ensures.made c.next_meet-in-Cuts.ensures

pub returns-in-Joins-clause-small : goal.returns-in-Joins-clause-small
returns-in-Joins-clause-small c = laws.meet_small c.args.inst.now _ c.args.from c.next_meet-in-Joins.result
    c.facts.ensures.made c.next_meet-in-Joins.ensures

pub returns-in-TaskMoves-clause-small : goal.returns-in-TaskMoves-clause-small
returns-in-TaskMoves-clause-small c = laws.task_small c.args.inst.now _ c.args.from c.next_slot.result
    c.facts.ensures.made c.next_slot.ensures

pub returns-in-TradeMoves-clause-small : goal.returns-in-TradeMoves-clause-small
returns-in-TradeMoves-clause-small c = laws.task_small c.args.inst.now _ c.args.from c.next_slot-in-TradeMoves.result
    c.facts.ensures.made c.next_slot-in-TradeMoves.ensures

pub returns-in-Gives-clause-small : goal.returns-in-Gives-clause-small
returns-in-Gives-clause-small c = laws.task_small c.args.inst.now _ c.args.from c.next_open.result c.facts.ensures.made
    c.next_open.ensures
