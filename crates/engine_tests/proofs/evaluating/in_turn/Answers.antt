-- The solutions of a resolved archive have their instances.
use Rattle.std.proofs.Common.{Bor, List, map, sym, subst}
use Rattle.xhstt_shape.specs.declared.records.RawSolution.{RawSolution}
use Rattle.parallel_solve.specs.Ready.{AreOnes}
use Rattle.parallel_solve.proofs.ReadyLemmas.{ready}
use Rattle.engine_tests.proofs.evaluating.in_turn.Goals as goal

pub make-requires-clause-ones : goal.make-requires-clause-ones
make-requires-clause-ones g c κs within =
    let worked = c.args.worked.now in
    let now = λ (x : Bor RawSolution). x.now in
    let ones = ready worked.archive worked.resolved c.requires.resolved c.requires.formed in
    subst (λ (xs : List (Bor RawSolution)). AreOnes worked.resolved 0 (map now xs)) (sym c.as_slice-raws.ensures.value)
    (subst (AreOnes worked.resolved 0) (sym c.in_ok-raws.ensures) ones.ones)
