use Rattle.std.proofs.Common.{arith}
use Rattle.family_tests.proofs.BenchLaws.{none_given}
use Rattle.family_tests.proofs.fitting.is_bare.Goals as goal

pub returns : goal.returns
returns c = λ e. none_given c.args.given.now (λ j l. c.loop-place.invariant j
    (let z = c.loop-place-test.false in omega (arith, z, l)))
