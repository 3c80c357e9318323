-- A number of 32 bits has at most ten digits.
use Rattle.std.proofs.Common.{◌≡◌, ◌+◌, ◌-◌, arith}
use Rattle.std.proofs.lemmas.Fmt.{length-decimal-le}
use Rattle.std.proofs.lemmas.List.{drop-set}
use Rattle.evaluation_report.proofs.demands.put_number.Goals as goal

pub write_digits-at-requires : goal.write_digits-at-requires
write_digits-at-requires c =
    let fits = c.ranges.number.fits in
    (omega (arith, length-decimal-le 10 c.args.number (omega arith) (omega arith) (omega arith)), omega arith)

pub overflow_sub-at : goal.overflow_sub-at
overflow_sub-at c =
    let fits = c.ranges.number.fits in
    omega (arith, length-decimal-le 10 c.args.number (omega arith) (omega arith) (omega arith))

pub returns-clause-short : goal.returns-clause-short
returns-clause-short c =
    let fits = c.ranges.number.fits in
    omega (arith, length-decimal-le 10 c.args.number (omega arith) (omega arith) (omega arith))

pub returns-clause-written : goal.returns-clause-written
returns-clause-written c =
    let w = c.write_digits-at in
    let fits = c.ranges.number.fits in
    let long = length-decimal-le 10 c.args.number (omega arith) (omega arith) (omega arith) in
    let e : w.result - 1 + 1 ≡ w.result = omega arith in
    rw (drop-set w.new.buf (w.result - 1) 32 (omega arith), e, w.ensures.written)
