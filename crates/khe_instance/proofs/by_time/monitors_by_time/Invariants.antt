-- The monitors so far are in the table.
use Rattle.std.proofs.Common.{length}
use Rattle.khe_base.specs.Bits.{words_for}
use Rattle.khe_instance.specs.ByTime.{hears_in}
use Rattle.khe_instance.specs.Listing.{AreTabled}
use Rattle.khe_instance.proofs.by_time.monitors_by_time.Given as goal

abbrev pub invariant-loop-number : goal.invariant-loop-number
invariant-loop-number l = AreTabled (hears_in l.inst) (length l.inst.resources) (λ r. words_for (length l.inst.times))
    l.number l.table
