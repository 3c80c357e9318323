-- One constraint more.
use Rattle.std.proofs.Common.{◌≡◌, ◌∙◌, ◌+◌, ◌<◌, ◌^◌, ap, subst, length, get_or, arith}
use Rattle.std.specs.List.{sum_by}
use Rattle.xhstt_resolve.specs.Limits.{watches_at, watches_of}
use Rattle.xhstt_resolve.specs.Points.{points_of}
use Rattle.xhstt_resolve.proofs.CountsLemmas.{counted}
use Rattle.xhstt_resolve.proofs.MonitorsLemmas.{length_monitors}
use Rattle.xhstt_resolve.proofs.SizesLemmas.{sum_step}
use Rattle.xhstt_resolve.proofs.counting.counts_of.Goals as goal

pub loop-constraint-preserved : goal.loop-constraint-preserved
loop-constraint-preserved c =
    let i = c.args.lookup.now.instance.now in
    let k = c.loop-constraint.constraint-index in
    let x = c.constraint-item.result in
    let old = c.loop-constraint.counts in
    let sofar = c.loop-constraint.invariant in
    let own = c.in_ok-follow_out.ensures in
    let items = c.as_slice-constraint-items.ensures in
    let within : k < length i.constraints = subst (λ xs. k < length xs) items c.loop-constraint-test.true in
    let at : x ≡ get_or i.constraints k x = c.constraint-item.is ∙ ap (λ xs. get_or xs k x) items in
    let points = length_monitors i k x within at in
    let watched = sum_step (watches_of i) i.constraints k x within at in
    let few : old.monitors + length (points_of i x) < 2 ^ 128 =
    omega (arith, sofar.few, own.few, within, c.requires.lookup.counts.constraints) in
    let small : old.watches + sum_by (watches_at i x) (points_of i x) < 2 ^ 128 =
    omega (arith, sofar.small, own.small, within, c.requires.lookup.counts.constraints) in
    let new = own.met ∙ counted i x (points_of i x) old few small in
    let monitors = ap (λ n. n.monitors) new in
    let watches = ap (λ n. n.watches) new in
    record {
      monitors = omega (arith, monitors, points, sofar.monitors);
      watches = omega (arith, watches, watched, sofar.watches);
      few = omega (arith, monitors, own.few, sofar.few);
      small = omega (arith, watches, own.small, sofar.small);
    }
