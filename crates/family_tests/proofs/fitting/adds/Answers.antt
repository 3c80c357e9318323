use Rattle.std.proofs.Common.{◌∙◌, sym, ap, arith}
use Rattle.khe_base.specs.declared.numbers.EventId.{EventId}
use Rattle.family_tests.proofs.BenchLaws.{event_at}
use Rattle.family_tests.proofs.FitLaws.{add_by}
use Rattle.family_tests.proofs.fitting.adds.Goals as goal

pub held_at-now-requires : goal.held_at-now-requires
held_at-now-requires c = let a = event_at c.args.inst.now c.facts.ensures c.args.told.now c.requires.told c.args.meet.0
    c.requires.there in let b = c.requires.held.events in let e = ap (λ (x : EventId). x.0) c.event-event.ensures in
    omega (arith, a, b, e)

pub event-requires : goal.event-requires
event-requires c = let a = event_at c.args.inst.now c.facts.ensures c.args.told.now c.requires.told c.args.meet.0
    c.requires.there in let e = ap (λ (x : EventId). x.0) c.event-event.ensures in omega (arith, a, e)

pub returns-then-duration-ge1 : goal.returns-then-duration-ge1
returns-then-duration-ge1 c = λ e.
    add_by c.args.inst.now c.args.told.now c.requires.told c.args.meet c.args.duration c.span.result
    c.event-event.result c.event.result.now c.held_at-now.result c.args.held.now c.requires.there c.span.ensures
    c.in-None.is (let g = c.if-duration-ge1.true in omega (arith, g)) c.event-event.ensures
    c.event.ensures c.requires.held c.held_at-now.ensures (sym c.has_room.ensures ∙ e)
