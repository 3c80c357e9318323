-- The event of a live meet is one of the instance, and a place of the event one of the meet.
use Rattle.std.proofs.Common.{◌≡◌, ◌∙◌, ◌<◌, Some, arith, length, slice_get, subst, sym}
use Rattle.engine_tests.proofs.PlaceLaws.{event_known, place_known}
use Rattle.engine_tests.proofs.watched_solutions.Hand.given.Goals as goal

pub event-event-requires : goal.event-event-requires
event-event-requires c =
    subst (λ p. c.in_ok-meet.meet.event.0 < length p.events) (sym c.instance.ensures)
    (event_known c.self.inside.solution.parts c.self.inside.solution.slots c.args.task.meet.0 c.in_ok-meet.meet
    c.facts.ensures.told (sym c.meet.ensures ∙ c.in_ok-meet.was))

pub resource-requires : goal.resource-requires
resource-requires c =
    let many = c.len.ensures in
    let test = c.if-task-len.true in
    let at = subst (λ p. slice_get p.events c.in_ok-meet.meet.event.0 ≡ Some c.event-event.result.now)
    c.instance.ensures c.event-event.ensures in
    place_known c.self.inside.solution.parts c.self.inside.solution.slots c.args.task.meet.0 c.in_ok-meet.meet
    c.event-event.result.now c.args.task.place c.facts.ensures.told
    (sym c.meet.ensures ∙ c.in_ok-meet.was) at (omega (arith, many, test))
