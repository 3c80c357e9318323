use Rattle.std.proofs.Common.{◌≡◌, ◌≤◌, ◌∙◌, length, sym, ap, subst, arith}
use Rattle.std.specs.Prelude.{replicate}
use Rattle.std.proofs.lemmas.List.{length-replicate}
use Rattle.khe_base.specs.declared.limits.TheConstants.{GREATEST_DEVIATION}
use Rattle.khe_told.specs.Slots.{no_meets}
use Rattle.set_monitors.specs.SpreadEvents.{AreCounts, spread_by, started}
use Rattle.set_monitors.proofs.SpreadLaws.{counts_none, started_none}
use Rattle.set_monitors.proofs.spread_events.StartsGauge.open.Goals as goal

pub returns : goal.returns
returns c =
    let p = c.args.inst.now in
    let m = c.args.monitor in
    let spreads = c.listed-spreads.result.now in
    let same = c.listed-spreads.ensures.spreads in
    let row = c.in_ok-counts.counts.items in
    let f = started p m (no_meets p) in
    let zeros : row ≡ replicate (length spreads) 0 = c.in_ok-counts.ensures.items_if_clones_equal (λ y h. h) in
    let are : AreCounts f spreads row = subst (AreCounts f spreads) (sym zeros)
    (counts_none f spreads (started_none p m)) in
    let small : c.out_of.result ≤ GREATEST_DEVIATION =
    omega (arith, c.out_of.ensures.bound, c.listed-spreads.ensures.listed) in
    record {
      monitor = c.requires.monitor;
      serves = c.requires.served;
      amount = ap length zeros ∙ length-replicate (length spreads) 0 ∙ ap length same;
      counts = subst (λ qs. AreCounts f qs row) same are;
      few = λ times. (let e = started_none p m times in omega (arith, e));
      outside = c.out_of.ensures.outside f (subst (AreCounts f spreads) (sym c.deref.ensures.value) are)
          ∙ ap (spread_by f) same;
      small = small;
    }
