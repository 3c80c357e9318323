use Rattle.std.proofs.Common.{length, ap, arith}
use Rattle.hall_report.proofs.Following.{slot_held, event_free, few_given, come_within, come_readable, come_apart}
use Rattle.hall_report.proofs.Following.{come_writable, come_of}
use Rattle.hall_report.proofs.demands.Demands.come.Goals as goal

pub overflow_cast-places : goal.overflow_cast-places
overflow_cast-places c =
    let a = few_given c.args.inst.now c.args.self.now.told c.args.meet c.args.duration c.args.self.now.units
    c.args.self.now.picks c.args.self.now.matching c.args.self.now.cells c.args.self.now.tasks c.args.self.now.times
    c.event-event.result c.requires.of c.event-event.ensures c.requires.fits.there in
    let b = ap length c.given.ensures in
    omega (arith, a, b)

pub hold-requires-clause-event : goal.hold-requires-clause-event
hold-requires-clause-event c = event_free c.args.inst.now c.args.self.now.told c.args.meet c.args.duration
    c.args.self.now.units c.args.self.now.picks c.args.self.now.matching c.args.self.now.cells c.args.self.now.tasks
    c.args.self.now.times c.event-event.result c.requires.of c.event-event.ensures c.requires.fits.there

pub hold-requires-clause-meet : goal.hold-requires-clause-meet
hold-requires-clause-meet c = slot_held c.args.inst.now c.args.self.now.told c.args.meet c.args.duration
    c.args.self.now.units c.args.self.now.picks c.args.self.now.matching c.args.self.now.cells c.args.self.now.tasks
    c.args.self.now.times c.event-event.result c.requires.of c.event-event.ensures c.requires.fits.there

pub hold-requires-clause-within : goal.hold-requires-clause-within
hold-requires-clause-within c = come_within c.args.inst.now c.args.self.now.told c.args.meet c.args.duration
    c.args.self.now.units c.args.self.now.picks c.args.self.now.matching c.args.self.now.cells c.args.self.now.tasks
    c.args.self.now.times c.event-event.result c.requires.of c.event-event.ensures c.requires.fits

pub renew-requires-clause-readable : goal.renew-requires-clause-readable
renew-requires-clause-readable c =
    come_readable c.args.inst.now c.args.self.now.told c.args.meet c.args.duration c.args.self.now.units
    c.args.self.now.picks c.args.self.now.matching c.args.self.now.cells c.args.self.now.tasks c.args.self.now.times
    c.event-event.result c.requires.of c.event-event.ensures c.requires.fits
    c.hold.new.self (record {
      held = c.hold.ensures.held;
      free = c.hold.ensures.free;
      next = c.hold.ensures.next;
      tasks = c.hold.ensures.tasks;
    }) c.note.new.self c.note.ensures (length c.given.result.now)
    (ap length c.given.ensures)

pub renew-requires-clause-apart : goal.renew-requires-clause-apart
renew-requires-clause-apart c =
    come_apart c.args.inst.now c.args.self.now.told c.args.meet c.args.duration c.args.self.now.units
    c.args.self.now.picks c.args.self.now.matching c.args.self.now.cells c.args.self.now.tasks c.args.self.now.times
    c.event-event.result c.requires.of c.event-event.ensures c.requires.fits
    c.hold.new.self (record {
      held = c.hold.ensures.held;
      free = c.hold.ensures.free;
      next = c.hold.ensures.next;
      tasks = c.hold.ensures.tasks;
    }) c.note.new.self c.note.ensures (length c.given.result.now)
    (ap length c.given.ensures)

pub renew-requires-clause-writable : goal.renew-requires-clause-writable
renew-requires-clause-writable c =
    come_writable c.args.inst.now c.args.self.now.told c.args.meet c.args.duration c.args.self.now.units
    c.args.self.now.picks c.args.self.now.matching c.args.self.now.cells c.args.self.now.tasks c.args.self.now.times
    c.event-event.result c.requires.of c.event-event.ensures c.requires.fits
    c.hold.new.self (record {
      held = c.hold.ensures.held;
      free = c.hold.ensures.free;
      next = c.hold.ensures.next;
      tasks = c.hold.ensures.tasks;
    }) c.note.new.self c.note.ensures (length c.given.result.now)
    (ap length c.given.ensures)

pub invariant_of-self : goal.invariant_of-self
invariant_of-self c = record {
  opened =
      ∣ (
        c.args.inst.now,
        come_of c.args.inst.now c.args.self.now.told c.args.meet c.args.duration c.args.self.now.units
            c.args.self.now.picks c.args.self.now.matching c.args.self.now.cells c.args.self.now.tasks
            c.args.self.now.times c.event-event.result c.requires.of c.event-event.ensures c.requires.fits
            c.hold.new.self (record {
              held = c.hold.ensures.held;
              free = c.hold.ensures.free;
              next =
                  c.hold.ensures.next;
              tasks = c.hold.ensures.tasks;
            }) c.note.new.self c.note.ensures
            (length c.given.result.now) (ap length c.given.ensures) c.renew.new.matching c.renew.ensures,
      ) ∣₁;
}

pub returns-clause-of : goal.returns-clause-of
returns-clause-of c =
    come_of c.args.inst.now c.args.self.now.told c.args.meet c.args.duration c.args.self.now.units c.args.self.now.picks
    c.args.self.now.matching c.args.self.now.cells c.args.self.now.tasks c.args.self.now.times c.event-event.result
    c.requires.of c.event-event.ensures c.requires.fits
    c.hold.new.self (record {
      held = c.hold.ensures.held;
      free = c.hold.ensures.free;
      next = c.hold.ensures.next;
      tasks = c.hold.ensures.tasks;
    }) c.note.new.self c.note.ensures (length c.given.result.now)
    (ap length c.given.ensures) c.renew.new.matching c.renew.ensures
