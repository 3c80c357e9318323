-- Where no listed number is still to come, the next call is not listed, and none is to come after it.
use Rattle.std.proofs.Common.{sym, arith}
use Rattle.khe_io.proofs.CallNumbers.{none_to_come-later, listed}
use Rattle.khe_io.proofs.calls.Calls.make.Goals as goal

pub returns-then-contains-clause-sound : goal.returns-then-contains-clause-sound
returns-then-contains-clause-sound c sound =
    listed _ _ _ _ sound c.in-Some.ensures.1 c.as_slice.ensures (sym c.if-contains.ensures.value)

pub returns-then-contains-clause-stays_sound : goal.returns-then-contains-clause-stays_sound
returns-then-contains-clause-stays_sound c sound =
    rw (c.fault.ensures.failing, c.fault.ensures.made)
    (none_to_come-later c.args.self.now.failing c.args.self.now.made c.in-Some.number
    (omega (arith, c.in-Some.ensures.1)) sound)

pub returns-clause-stays_sound : goal.returns-clause-stays_sound
returns-clause-stays_sound c sound =
    none_to_come-later c.args.self.now.failing c.args.self.now.made c.in-Some.number
    (omega (arith, c.in-Some.ensures.1)) sound
