use Rattle.std.proofs.Common.{length, ap, arith}
use Rattle.hall_report.proofs.Following.{slot_held, event_free, few_given, go_some, go_within, go_readable, go_apart}
use Rattle.hall_report.proofs.Following.{go_writable, go_of}
use Rattle.hall_report.proofs.demands.Demands.go.Goals as goal

pub overflow_cast-places : goal.overflow_cast-places
overflow_cast-places c =
    let a = few_given c.args.inst.now c.args.self.now.told c.args.meet c.args.duration c.args.self.now.units
    c.args.self.now.picks c.args.self.now.matching c.args.self.now.cells c.args.self.now.tasks c.args.self.now.times
    c.event-event.result c.requires.of c.event-event.ensures c.requires.fits.there in
    let b = ap length c.given.ensures in
    omega (arith, a, b)

pub renew-requires-clause-readable : goal.renew-requires-clause-readable
renew-requires-clause-readable c = go_readable c.args.inst.now c.args.self.now.told c.args.meet c.args.duration
    c.args.self.now.units c.args.self.now.picks c.args.self.now.matching c.args.self.now.cells c.args.self.now.tasks
    c.args.self.now.times c.event-event.result c.requires.of c.event-event.ensures c.requires.fits
    (length c.given.result.now) (ap length c.given.ensures)

pub renew-requires-clause-apart : goal.renew-requires-clause-apart
renew-requires-clause-apart c = go_apart c.args.inst.now c.args.self.now.told c.args.meet c.args.duration
    c.args.self.now.units c.args.self.now.picks c.args.self.now.matching c.args.self.now.cells c.args.self.now.tasks
    c.args.self.now.times c.event-event.result c.requires.of c.event-event.ensures c.requires.fits c.note.new.self
    c.note.ensures (length c.given.result.now) (ap length c.given.ensures)

pub renew-requires-clause-writable : goal.renew-requires-clause-writable
renew-requires-clause-writable c = go_writable c.args.inst.now c.args.self.now.told c.args.meet c.args.duration
    c.args.self.now.units c.args.self.now.picks c.args.self.now.matching c.args.self.now.cells c.args.self.now.tasks
    c.args.self.now.times c.event-event.result c.requires.of c.event-event.ensures c.requires.fits c.note.new.self
    c.note.ensures (length c.given.result.now) (ap length c.given.ensures)

pub release-requires-clause-event : goal.release-requires-clause-event
release-requires-clause-event c = event_free c.args.inst.now c.args.self.now.told c.args.meet c.args.duration
    c.args.self.now.units c.args.self.now.picks c.args.self.now.matching c.args.self.now.cells c.args.self.now.tasks
    c.args.self.now.times c.event-event.result c.requires.of c.event-event.ensures c.requires.fits.there

pub release-requires-clause-meet : goal.release-requires-clause-meet
release-requires-clause-meet c = slot_held c.args.inst.now c.args.self.now.told c.args.meet c.args.duration
    c.args.self.now.units c.args.self.now.picks c.args.self.now.matching c.args.self.now.cells c.args.self.now.tasks
    c.args.self.now.times c.event-event.result c.requires.of c.event-event.ensures c.requires.fits.there

pub release-requires-clause-some : goal.release-requires-clause-some
release-requires-clause-some c = go_some c.args.inst.now c.args.self.now.told c.args.meet c.args.duration
    c.args.self.now.units c.args.self.now.picks c.args.self.now.matching c.args.self.now.cells c.args.self.now.tasks
    c.args.self.now.times c.event-event.result c.requires.of c.event-event.ensures c.requires.fits

pub release-requires-clause-within : goal.release-requires-clause-within
release-requires-clause-within c = go_within c.args.inst.now c.args.self.now.told c.args.meet c.args.duration
    c.args.self.now.units c.args.self.now.picks c.args.self.now.matching c.args.self.now.cells c.args.self.now.tasks
    c.args.self.now.times c.event-event.result c.requires.of c.event-event.ensures c.requires.fits

pub invariant_of-self : goal.invariant_of-self
invariant_of-self c = record {
  opened = ∣ (
    c.args.inst.now,
    go_of c.args.inst.now c.args.self.now.told c.args.meet
        c.args.duration c.args.self.now.units c.args.self.now.picks c.args.self.now.matching c.args.self.now.cells
        c.args.self.now.tasks c.args.self.now.times c.event-event.result c.requires.of c.event-event.ensures
        c.requires.fits
        c.note.new.self c.note.ensures (length c.given.result.now) (ap length c.given.ensures) c.release.new.self
        (record {
          next = c.release.ensures.next;
          free = c.release.ensures.free;
          held = c.release.ensures.held;
          tasks =
              c.release.ensures.tasks;
        }) c.renew.new.matching c.renew.ensures,
  ) ∣₁;
}

pub returns-clause-of : goal.returns-clause-of
returns-clause-of c = go_of c.args.inst.now c.args.self.now.told c.args.meet c.args.duration c.args.self.now.units
    c.args.self.now.picks c.args.self.now.matching c.args.self.now.cells c.args.self.now.tasks c.args.self.now.times
    c.event-event.result c.requires.of c.event-event.ensures c.requires.fits c.note.new.self c.note.ensures
    (length c.given.result.now) (ap length c.given.ensures) c.release.new.self
    (record {
      next = c.release.ensures.next;
      free = c.release.ensures.free;
      held = c.release.ensures.held;
      tasks =
          c.release.ensures.tasks;
    }) c.renew.new.matching c.renew.ensures
