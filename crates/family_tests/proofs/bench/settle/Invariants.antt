use Rattle.std.proofs.Common.{◌≡◌, length}
use Rattle.khe_told.specs.Waits.{waits_in}
use Rattle.family_tests.specs.Benches.{IsAwaited}
use Rattle.family_tests.proofs.bench.settle.Given as goal

abbrev pub invariant-loop-number : goal.invariant-loop-number
invariant-loop-number g l =
    record {
      waiting : length l.waits.flags ≡ length l.inst.monitors;
      monitors : length l.marks.values.items ≡ length l.inst.monitors;
      awaited : IsAwaited l.inst g.F.Family.serves_kind (g.F.Family.told l.family) (waits_in l.waits)
          l.marks.values.items;
    }

abbrev pub decreases-loop-number : goal.decreases-loop-number
decreases-loop-number g l = l.waits.amount
