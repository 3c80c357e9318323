use Rattle.std.proofs.Common.{ap, arith}
use Rattle.std.proofs.lemmas.Bool.{eqb-true}
use Rattle.khe_base.specs.declared.numbers.EventId.{EventId}
use Rattle.family_tests.proofs.BenchLaws.{event_at}
use Rattle.family_tests.proofs.FitLaws.{typed_by}
use Rattle.khe_told.specs.Slots.{slot_at}
use Rattle.family_tests.proofs.fitting.is_typed.Goals as goal

pub event-event-requires : goal.event-event-requires
event-event-requires c = let a = event_at c.args.inst.now c.facts.ensures c.args.told.now c.requires.told
    c.args.task.meet.0 c.requires.there in let e = ap (λ (x : EventId). x.0) c.event.ensures in omega (arith, a, e)

pub returns-then-resource-resources : goal.returns-then-resource-resources
returns-then-resource-resources c = λ e.
    typed_by c.args.inst.now (slot_at c.args.told.now c.args.task.meet.0) c.args.task.place c.args.resource
    c.event.result c.event-event.result.now c.as_slice.result.now c.type_at.result c.in-Some.rtype c.type_of.result
    c.event.ensures c.event-event.ensures c.as_slice.ensures c.type_at.ensures c.in-Some.is c.type_of.ensures
    (eqb-true c.type_of.result c.in-Some.rtype e)
