-- What waits still costs nothing now, or was measured.
use Rattle.std.proofs.Common.{◌<◌, ◌∙◌, length, length-set, subst, sym, ap, arith}
use Rattle.std.specs.Prelude.{Bool, List, false}
use Rattle.khe_base.specs.Totals.{is_lower}
use Rattle.khe_base.specs.declared.sums.Totals.{Totals}
use Rattle.khe_told.specs.Waits.{waits_in}
use Rattle.monitor_graph.proofs.ValueLaws.{as_many}
use Rattle.khe_engine.specs.Lower.{AreOpen}
use Rattle.std.proofs.Common.{get_or}
use Rattle.khe_engine.proofs.LowerLaws.{open_done, open_least, open_more, open_passed}
use Rattle.khe_engine.proofs.measuring.is_lower_measured.Goals as goal

pub deviation-requires : goal.deviation-requires
deviation-requires g c =
    let a = c.in-Some.ensures.0 in
    let b = c.loop-lowest.invariant.monitors in
    let n = as_many c.args.graph.now c.args.inst.now c.requires.rates in
    omega (arith, a, b, n)

pub deviation-deviation-requires : goal.deviation-deviation-requires
deviation-deviation-requires g c = record {
  of = c.requires.of;
  known = let a = c.in-Some.ensures.0 in let b = c.loop-lowest.invariant.monitors in omega (arith, a, b);
}

pub shift-requires : goal.shift-requires
shift-requires g c =
    let e = c.in-Some.ensures in
    let h = c.loop-lowest.invariant.open_ in
    record {
      known =
          let a = e.0 in
          let b = c.loop-lowest.invariant.monitors in
          let n = as_many c.args.graph.now c.args.inst.now c.requires.rates in
          omega (arith, a, b, n);
      small = c.deviation-deviation.ensures.small;
      before = (
        h.ds,
        h.totals_,
        h.still c.in-Some.monitor.0 e.1 (sym c.deviation.ensures ∙ c.if-deviation-eq0.true),
      );
    }

pub loop-lowest-preserved : goal.loop-lowest-preserved
loop-lowest-preserved g c =
    let v = c.loop-lowest.invariant in
    let e = c.in-Some.ensures in
    let s = g.D.Deviations.slots c.args.deviations.now in
    let flags = c.loop-lowest.waiting.flags in
    let k = c.in-Some.monitor.0 in
    let some = c.if-deviation-eq0.false in
    let same = c.deviation.ensures in
    record {
      monitors = ap length e.2 ∙ length-set flags k false ∙ v.monitors;
      open_ = subst (λ (fs : List Bool). AreOpen c.args.inst.now (λ i. get_or fs i false) s c.args.graph.now
          c.loop-lowest.totals) (sym e.2)
          (open_passed c.args.inst.now s c.args.graph.now c.loop-lowest.totals flags k e.0 e.1
          (λ z. some (same ∙ z)) v.open_);
    }

pub loop-lowest-preserved-then-deviation-eq0 : goal.loop-lowest-preserved-then-deviation-eq0
loop-lowest-preserved-then-deviation-eq0 g c =
    let v = c.loop-lowest.invariant in
    let e = c.in-Some.ensures in
    let p = c.args.inst.now in
    let s = g.D.Deviations.slots c.args.deviations.now in
    let flags = c.loop-lowest.waiting.flags in
    let k = c.in-Some.monitor.0 in
    let known : k < length p.monitors = let a = e.0 in let b = v.monitors in omega (arith, a, b) in
    record {
      monitors = ap length e.2 ∙ length-set flags k false ∙ v.monitors;
      open_ = subst (λ (fs : List Bool). AreOpen p (λ i. get_or fs i false) s c.args.graph.now c.shift.new.totals)
          (sym e.2)
          (open_more p s c.args.graph.now c.loop-lowest.totals c.shift.new.totals flags k c.deviation-deviation.result
          e.0 known c.deviation-deviation.ensures.value e.1 (sym c.deviation.ensures ∙ c.if-deviation-eq0.true)
          c.shift.ensures v.open_);
    }

pub returns-in_default-clause-lower : goal.returns-in_default-clause-lower
returns-in_default-clause-lower g c =
    sym c.loop-lowest-test.true ∙ c.is_lower.ensures
    ∙ ap (λ (t : Totals). is_lower t c.args.lowest)
    (open_done c.args.inst.now (waits_in c.loop-lowest.waiting) (g.D.Deviations.slots c.args.deviations.now) c.args.graph.now
    c.loop-lowest.totals c.requires.rates c.in_default.ensures.2 c.loop-lowest.invariant.open_)

pub returns-clause-lower : goal.returns-clause-lower
returns-clause-lower g c =
    sym (open_least c.args.inst.now (waits_in c.loop-lowest.waiting) (g.D.Deviations.slots c.args.deviations.now)
    c.args.graph.now c.loop-lowest.totals c.args.lowest c.requires.rates c.loop-lowest.invariant.open_
    (sym c.is_lower.ensures ∙ c.loop-lowest-test.false))
