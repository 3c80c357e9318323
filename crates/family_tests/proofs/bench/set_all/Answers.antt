use Rattle.family_tests.proofs.BenchLaws.{set_more}
use Rattle.family_tests.proofs.bench.set_all.Goals as goal

pub loop-k-preserved : goal.loop-k-preserved
loop-k-preserved g c = set_more c.args.inst.now g.F.Family.serves_kind (g.F.Family.told c.args.family.now) c.loop-k.k
    c.loop-k.marks.values.items c.set_one.new.marks.values.items c.loop-k.invariant c.set_one.ensures
