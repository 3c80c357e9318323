-- What the look leaves, by its answer.
use Rattle.std.proofs.Common.{arith}
use Rattle.std.proofs.lemmas.Bool.Decides.{nat_tests}
use Rattle.parallel_repair.proofs.TurnLemmas.{looked_some, saw_lower}
use Rattle.parallel_repair.proofs.workers.is_needless.Goals as goal

pub returns-in-Some-clause-view : goal.returns-in-Some-clause-view
returns-in-Some-clause-view c = looked_some c.args.seat.now.me.0 c.look.new.seat.me.0 c.in-Some.lower
    c.in-Some.ensures.answer.0

pub returns-in-Some-clause-lower : goal.returns-in-Some-clause-lower
returns-in-Some-clause-lower c = λ less. saw_lower c.args.seat.now.me.0 c.look.new.seat.me.0 c.in-Some.lower c.args.job
    c.in-Some.ensures.answer.0 (grind (arith, nat_tests, less))
