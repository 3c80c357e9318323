use Rattle.std.proofs.Common.{sym}
use Rattle.repair_moves.proofs.ItemLaws as laws
use Rattle.repair_moves.proofs.reads.resource_at.Goals as goal

pub resource-requires : goal.resource-requires
resource-requires c = laws.place_some c.args.inst.now c.args.solution.now.slots c.args.task.meet.0 c.args.task.place
    c.in_ok-own.own.event _ c.facts.ensures.valid.told c.in_ok-own.ensures.live c.in_ok-own.ensures.event
    c.in-Some.ensures

pub returns-in-None : goal.returns-in-None
returns-in-None c = sym (laws.place_nothing c.args.inst.now c.args.solution.now.slots c.args.task.meet.0
    c.args.task.place c.in_ok-own.own.event c.facts.ensures.valid.told c.in_ok-own.ensures.live
    c.in_ok-own.ensures.event c.in-None.ensures)
