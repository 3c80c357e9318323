-- One reference more.
use Rattle.std.proofs.Common.{arith}
use Rattle.xhstt_references.specs.Ids.{time_ids}
use Rattle.xhstt_resolve.proofs.WatchesLemmas.{numbers_step}
use Rattle.xhstt_resolve.proofs.watching.named_times.Goals as goal

pub loop-reference-preserved : goal.loop-reference-preserved
loop-reference-preserved c =
    let i = c.args.lookup.now.instance.now in
    let step = numbers_step (time_ids i) c.args.references.now c.loop-reference.reference-index c.reference-item.result
    c.loop-reference-test.true c.reference-item.is in
    record {
      counted = omega (arith, step, c.named_time-total.ensures.count, c.loop-reference.invariant.counted);
      small = omega (arith, c.named_time-total.ensures.small, c.loop-reference.invariant.small);
    }
