-- The meet's event is one of the instance, with as many places as the slot has.
use Rattle.std.proofs.Common.{subst, arith, ap, ◌∙◌, ◌≡◌, length, set}
use Rattle.khe_told.specs.Fits.{AreTold}
use Rattle.khe_told.specs.Slots.{slot_at}
use Rattle.khe_engine.specs.Openings.{coming, told_to}
use Rattle.khe_engine.proofs.OpeningLaws.{event_there, places_few, places_there}
use Rattle.khe_engine.proofs.telling.tell_tasks.Goals as goal

pub event-requires : goal.event-requires
event-requires g c =
    event_there c.args.inst.now c.args.solution.now.slots c.args.number.0 c.args.meet
    (subst (λ p. AreTold p c.args.solution.now.slots) c.requires.parts c.facts-2.ensures.told) c.requires.there
    c.requires.meet

pub overflow_cast-place-end : goal.overflow_cast-place-end
overflow_cast-place-end g c =
    let few =
    places_few c.args.inst.now c.args.solution.now.slots c.args.number.0 c.args.meet c.event.result.now
    c.facts.ensures.first_meets
    (subst (λ p. AreTold p c.args.solution.now.slots) c.requires.parts c.facts-2.ensures.told) c.requires.there
    c.requires.meet c.event.ensures in
    let limit = c.facts.ensures.limits.tasks in
    let many = c.len-place-end.ensures in
    omega (arith, few, limit, many)

pub tell_task-requires-clause-place : goal.tell_task-requires-clause-place
tell_task-requires-clause-place g c =
    let same =
    places_there c.args.inst.now c.args.solution.now.slots c.args.number.0 c.args.meet c.event.result.now
    (subst (λ p. AreTold p c.args.solution.now.slots) c.requires.parts c.facts-2.ensures.told) c.requires.there
    c.requires.meet c.event.ensures in
    let many = c.len-place-end.ensures in
    omega (arith, same, many, c.loop-place-test.true)

pub returns-clause-told : goal.returns-clause-told
returns-clause-told g c =
    let s = c.args.solution.now.slots in
    let k = c.args.number.0 in
    let same =
    places_there c.args.inst.now s k c.args.meet c.event.result.now
    (subst (λ p. AreTold p s) c.requires.parts c.facts-2.ensures.told) c.requires.there c.requires.meet
    c.event.ensures in
    let many = c.len-place-end.ensures in
    let all : c.loop-place.place ≡ length (slot_at s k).given = omega (arith, same, many) in
    c.loop-place.invariant.told ∙ ap (λ j. set (told_to k s) k (coming j (slot_at s k))) all
