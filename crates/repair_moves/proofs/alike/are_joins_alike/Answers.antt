use Rattle.std.proofs.Common.{arith}
use Rattle.repair_moves.proofs.AlikeLaws as laws
use Rattle.repair_moves.proofs.ChoiceLaws.{event_there}
use Rattle.repair_moves.proofs.ItemLaws.{places_few}
use Rattle.repair_moves.proofs.alike.are_joins_alike.Goals as goal

pub event-requires : goal.event-requires
event-requires c = event_there c.args.inst.now c.args.solution.now.slots c.args.a c.in-Some.first.event
    c.facts.ensures.made c.facts.ensures.valid.told c.in-Some.ensures.live c.in-Some.ensures.event

pub overflow_cast-places : goal.overflow_cast-places
overflow_cast-places c = let d = places_few c.args.inst.now c.args.solution.now.slots c.args.a c.in-Some.first.event
    c.event.result.now c.facts.ensures.made c.facts.ensures.valid.told c.in-Some.ensures.live c.in-Some.ensures.event
    c.event.ensures in omega arith

pub returns : goal.returns
returns c = λ h. laws.joins_alike c.args.inst.now c.args.solution.now.slots c.args.a c.args.b c.in-Some.first
    c.in-Some-live.second c.event.result.now c.facts.ensures.valid.told c.in-Some.ensures c.in-Some-live.ensures
    (c.are_meets_alike.ensures c.if-not-are_meets_alike.false) c.event.ensures
    (λ k l. c.are_given_alike.ensures h k (let n = c.len-places.ensures in omega (arith, l, n)))
