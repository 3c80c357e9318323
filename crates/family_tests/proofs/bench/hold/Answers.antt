-- One count turned.
use Rattle.std.proofs.Common.{ap, arith}
use Rattle.khe_base.specs.declared.numbers.EventId.{EventId}
use Rattle.khe_told.specs.Fits.{Fits}
use Rattle.std.proofs.Common.{subst}
use Rattle.family_tests.proofs.BenchLaws.{event_at, held_added, held_dropped, held_enough, held_kept, held_room}
use Rattle.family_tests.proofs.bench.hold.Goals as goal

pub raise-requires-clause-event : goal.raise-requires-clause-event
raise-requires-clause-event c =
    let a = event_at c.args.inst.now c.facts.ensures c.args.told.now c.requires.told c.in-Add.meet.0
    (subst (Fits c.args.inst.now c.args.told.now) c.in-Add.is c.requires.fits).there in
    let b = c.requires.held.events in
    let e = ap (λ (x : EventId). x.0) c.event.ensures in
    omega (arith, a, b, e)

pub raise-requires-clause-small : goal.raise-requires-clause-small
raise-requires-clause-small c = held_room c.args.inst.now c.facts.ensures c.args.told.now c.requires.told c.args.change
    c.in-Add.meet c.in-Add.duration c.args.held.now.items c.event.result.0 c.in-Add.is c.requires.fits c.requires.held
    (ap (λ (x : EventId). x.0) c.event.ensures)

pub lower-requires-clause-event : goal.lower-requires-clause-event
lower-requires-clause-event c =
    let a = event_at c.args.inst.now c.facts.ensures c.args.told.now c.requires.told c.in-Drop.meet.0
    (subst (Fits c.args.inst.now c.args.told.now) c.in-Drop.is c.requires.fits).there in
    let b = c.requires.held.events in
    let e = ap (λ (x : EventId). x.0) c.event-in-Drop.ensures in
    omega (arith, a, b, e)

pub lower-requires-clause-enough : goal.lower-requires-clause-enough
lower-requires-clause-enough c = held_enough c.args.inst.now c.facts.ensures c.args.told.now c.requires.told
    c.args.change c.in-Drop.meet c.in-Drop.duration c.args.held.now.items c.event-in-Drop.result.0 c.in-Drop.is
    c.requires.fits c.requires.held (ap (λ (x : EventId). x.0) c.event-in-Drop.ensures)

pub returns-in-Add : goal.returns-in-Add
returns-in-Add c = record {
  held = held_added c.args.inst.now c.facts.ensures c.args.told.now c.requires.told
      c.args.change c.in-Add.meet c.in-Add.duration c.args.held.now.items c.raise.new.held.items c.event.result.0
      c.in-Add.is c.requires.fits c.requires.held (ap (λ (x : EventId). x.0) c.event.ensures) c.raise.ensures;
}

pub returns-in-Drop : goal.returns-in-Drop
returns-in-Drop c = record {
  held = held_dropped c.args.inst.now c.facts.ensures c.args.told.now c.requires.told
      c.args.change c.in-Drop.meet c.in-Drop.duration c.args.held.now.items c.lower.new.held.items
      c.event-in-Drop.result.0 c.in-Drop.is c.requires.fits c.requires.held
      (ap (λ (x : EventId). x.0) c.event-in-Drop.ensures) c.lower.ensures;
}

pub returns-in_default : goal.returns-in_default
returns-in_default c = record {
  held = held_kept c.args.inst.now c.facts.ensures c.args.told.now c.requires.told
      c.args.change c.args.held.now.items c.in_default.not-Add c.in_default.not-Drop c.requires.fits c.requires.held;
}
