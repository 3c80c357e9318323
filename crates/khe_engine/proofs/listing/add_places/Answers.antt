-- The meet's event is one of the instance, with as many places as the slot has; and one place more.
use Rattle.std.proofs.Common.{refl, subst, arith}
use Rattle.khe_told.specs.Fits.{AreTold}
use Rattle.khe_told.specs.Lists.{tasks_with}
use Rattle.khe_told.specs.Slots.{slot_at}
use Rattle.khe_engine.proofs.ListedLaws.{listed_end, place_is, task_next}
use Rattle.khe_engine.proofs.OpeningLaws.{event_there, places_few, places_there}
use Rattle.khe_engine.proofs.listing.add_places.Goals as goal

pub event-requires : goal.event-requires
event-requires c =
    event_there c.args.inst.now c.args.solution.now.slots c.args.number.0 c.args.meet
    (subst (λ p. AreTold p c.args.solution.now.slots) c.requires.parts c.facts-2.ensures.told) c.requires.there
    c.requires.meet

pub overflow_cast-place-end : goal.overflow_cast-place-end
overflow_cast-place-end c =
    let few =
    places_few c.args.inst.now c.args.solution.now.slots c.args.number.0 c.args.meet c.event.result.now
    c.facts.ensures.first_meets
    (subst (λ p. AreTold p c.args.solution.now.slots) c.requires.parts c.facts-2.ensures.told) c.requires.there
    c.requires.meet c.event.ensures in
    let limit = c.facts.ensures.limits.tasks in
    let many = c.len-place-end.ensures in
    omega (arith, few, limit, many)

pub resource-resource-requires : goal.resource-resource-requires
resource-resource-requires c =
    let s = c.args.solution.now.slots in
    let same =
    places_there c.args.inst.now s c.args.number.0 c.args.meet c.event.result.now
    (subst (λ p. AreTold p s) c.requires.parts c.facts-2.ensures.told) c.requires.there c.requires.meet
    c.event.ensures in
    let many = c.len-place-end.ensures in
    place_is (slot_at s c.args.number.0) c.args.meet c.loop-place.place c.requires.meet
    (omega (arith, same, many, c.loop-place-test.true))

pub loop-place-preserved : goal.loop-place-preserved
loop-place-preserved c =
    let s = c.args.solution.now.slots in
    let same =
    places_there c.args.inst.now s c.args.number.0 c.args.meet c.event.result.now
    (subst (λ p. AreTold p s) c.requires.parts c.facts-2.ensures.told) c.requires.there c.requires.meet
    c.event.ensures in
    let many = c.len-place-end.ensures in
    task_next _ _ _ c.args.meet c.loop-place.place (slot_at s c.args.number.0).given c.resource-resource.result
    (omega (arith, same, many, c.loop-place-test.true)) c.resource-resource.ensures c.in_ok-push.ensures.ok
    c.loop-place.invariant

pub returns : goal.returns
returns c =
    let s = c.args.solution.now.slots in
    let same =
    places_there c.args.inst.now s c.args.number.0 c.args.meet c.event.result.now
    (subst (λ p. AreTold p s) c.requires.parts c.facts-2.ensures.told) c.requires.there c.requires.meet
    c.event.ensures in
    let many = c.len-place-end.ensures in
    listed_end (tasks_with c.args.meet c.loop-place.place) _ _ c.loop-place.place (slot_at s c.args.number.0).given refl
    (omega (arith, same, many)) c.loop-place.invariant
