use Rattle.std.proofs.Common.{length, ap, arith}
use Rattle.hall_report.proofs.Noting.{changed_is}
use Rattle.hall_report.proofs.Following.{turn_readable, turn_apart, turn_writable, turn_end, turn_of}
use Rattle.hall_report.proofs.demands.Demands.turn.Goals as goal

pub renew-requires-clause-meet : goal.renew-requires-clause-meet
renew-requires-clause-meet c =
    let a = c.requires.fits.there in
    let b = c.meet-meet.ensures in
    let d = ap length c.note.ensures in
    let e = (changed_is c.args.inst.now c.args.self.now.told c.args.change c.requires.fits).same_length in
    omega (arith, a, b, d, e)

pub renew-requires-clause-end : goal.renew-requires-clause-end
renew-requires-clause-end c = turn_end c.args.inst.now c.args.self.now.told c.args.change c.args.self.now.units
    c.args.self.now.picks c.args.self.now.matching c.args.self.now.cells c.args.self.now.tasks c.args.self.now.times
    c.meet-meet.result.0 c.args.from c.args.end c.span_length-duration.result c.requires.of c.requires.fits
    c.requires.turns c.meet-meet.ensures c.span_length-duration.ensures c.note.new.self c.note.ensures

pub renew-requires-clause-readable : goal.renew-requires-clause-readable
renew-requires-clause-readable c = turn_readable c.args.inst.now c.args.self.now.told c.args.change
    c.args.self.now.units c.args.self.now.picks c.args.self.now.matching c.args.self.now.cells c.args.self.now.tasks
    c.args.self.now.times c.meet-meet.result.0 c.args.from c.args.end c.span_length-duration.result c.requires.of
    c.requires.fits c.requires.turns c.meet-meet.ensures c.span_length-duration.ensures c.note.new.self c.note.ensures

pub renew-requires-clause-apart : goal.renew-requires-clause-apart
renew-requires-clause-apart c = turn_apart c.args.inst.now c.args.self.now.told c.args.change c.args.self.now.units
    c.args.self.now.picks c.args.self.now.matching c.args.self.now.cells c.args.self.now.tasks c.args.self.now.times
    c.meet-meet.result.0 c.args.from c.args.end c.span_length-duration.result c.requires.of c.requires.fits
    c.requires.turns c.meet-meet.ensures c.span_length-duration.ensures c.note.new.self c.note.ensures

pub renew-requires-clause-writable : goal.renew-requires-clause-writable
renew-requires-clause-writable c = turn_writable c.args.inst.now c.args.self.now.told c.args.change
    c.args.self.now.units c.args.self.now.picks c.args.self.now.matching c.args.self.now.cells c.args.self.now.tasks
    c.args.self.now.times c.meet-meet.result.0 c.args.from c.args.end c.span_length-duration.result c.requires.of
    c.requires.fits c.requires.turns c.meet-meet.ensures c.span_length-duration.ensures c.note.new.self c.note.ensures

pub invariant_of-self : goal.invariant_of-self
invariant_of-self c = record {
  opened = ∣ (
    c.args.inst.now,
    turn_of c.args.inst.now c.args.self.now.told c.args.change
        c.args.self.now.units c.args.self.now.picks c.args.self.now.matching c.args.self.now.cells c.args.self.now.tasks
        c.args.self.now.times c.meet-meet.result.0 c.args.from c.args.end c.span_length-duration.result c.requires.of
        c.requires.fits c.requires.turns c.meet-meet.ensures c.span_length-duration.ensures c.note.new.self
        c.note.ensures
        c.renew.new.matching c.renew.ensures,
  ) ∣₁;
}

pub returns-clause-of : goal.returns-clause-of
returns-clause-of c = turn_of c.args.inst.now c.args.self.now.told c.args.change c.args.self.now.units
    c.args.self.now.picks c.args.self.now.matching c.args.self.now.cells c.args.self.now.tasks c.args.self.now.times
    c.meet-meet.result.0 c.args.from c.args.end c.span_length-duration.result c.requires.of c.requires.fits
    c.requires.turns c.meet-meet.ensures c.span_length-duration.ensures c.note.new.self c.note.ensures
    c.renew.new.matching c.renew.ensures
