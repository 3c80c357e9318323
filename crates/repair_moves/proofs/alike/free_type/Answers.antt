use Rattle.repair_moves.proofs.AlikeLaws as laws
use Rattle.repair_moves.proofs.alike.free_type.Goals as goal

pub returns-in-None-fixed : goal.returns-in-None-fixed
returns-in-None-fixed c = laws.free_task c.args.inst.now c.args.solution.now.slots c.args.task c.in-Some.own.event
    c.in-Some-place_at.place.now c.facts.ensures.valid.told c.in-Some.ensures.live c.in-Some.ensures.event
    c.in-Some-place_at.ensures c.in-None-fixed.is
