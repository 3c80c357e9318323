use Rattle.family_tests.proofs.BenchLaws.{AreSet}
use Rattle.family_tests.proofs.bench.set_all.Given as goal

abbrev pub invariant-loop-k : goal.invariant-loop-k
invariant-loop-k g l = AreSet l.inst g.F.Family.serves_kind (g.F.Family.told l.family) l.k l.marks.values.items
