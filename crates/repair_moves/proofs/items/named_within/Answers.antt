use Rattle.repair_moves.proofs.ItemLaws as laws
use Rattle.repair_moves.proofs.items.named_within.Goals as goal

pub returns-in-EventGroup : goal.returns-in-EventGroup
returns-in-EventGroup c = laws.within_all c.args.inst.now c.args.rule.now c.args.point c.meet_slots.result
    c.facts.ensures c.meet_slots.ensures
