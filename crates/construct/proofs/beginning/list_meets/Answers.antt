-- The numbers of an event fit; and one more event.
use Rattle.std.proofs.Common.{length, get_or, refl, arith}
use Rattle.khe_told.specs.Lists.{meets_in}
use Rattle.construct.proofs.BeginLaws.{event_meets, event_room, events_end, own_amount, own_few, places_room}
use Rattle.construct.proofs.beginning.list_meets.Goals as goal

pub add_meets-requires-clause-few : goal.add_meets-requires-clause-few
add_meets-requires-clause-few c =
    let many = c.requires.many in
    let end = c.events-number-end.ensures in
    own_few c.args.inst.now c.loop-number.number (length c.args.inst.now.events) c.event.result.now c.args.amounts.now
    c.facts.ensures c.requires c.event.ensures (omega (arith, many, end, c.loop-number-test.true))

pub add_meets-requires-clause-slots : goal.add_meets-requires-clause-slots
add_meets-requires-clause-slots c =
    event_room c.args.inst.now c.loop-number.number c.event.result.now c.facts.ensures c.event.ensures

pub loop-number-preserved : goal.loop-number-preserved
loop-number-preserved c =
    let many = c.requires.many in
    let end = c.events-number-end.ensures in
    let k = c.loop-number.number in
    event_meets c.args.inst.now k (get_or c.args.amounts.now k 0) c.event.result.now _ _ _ c.event.ensures
    (own_amount c.args.inst.now k (length c.args.inst.now.events) c.event.result.now c.args.amounts.now
    c.requires c.event.ensures (omega (arith, many, end, c.loop-number-test.true)))
    c.in_ok-add_meets.ensures c.loop-number.invariant

pub returns : goal.returns
returns c =
    let end = c.events-number-end.ensures in
    events_end c.args.inst.now c.loop-number.number meets_in _ _ refl (omega (arith, end)) c.loop-number.invariant
