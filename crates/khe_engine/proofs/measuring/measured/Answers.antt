use Rattle.std.proofs.Common.{◌<◌, get_or, length, ap, ◌∙◌, subst, sym, arith, length-set}
use Rattle.std.specs.Prelude.{Bool, List, false}
use Rattle.khe_told.specs.Waits.{waits_in}
use Rattle.khe_engine.proofs.TrialLaws.{AreUnderWay, all_measured, measure_more}
use Rattle.khe_engine.proofs.measuring.measured.Goals as goal

pub loop-monitor-preserved : goal.loop-monitor-preserved
loop-monitor-preserved g c =
    let v = c.loop-monitor.invariant in
    let e = c.in-Some.ensures in
    let p = c.args.inst.now in
    let s = g.D.Deviations.slots c.args.deviations.now in
    let flags = c.loop-monitor.waiting.flags in
    let k = c.in-Some.monitor.0 in
    let known : k < length p.monitors = let a = e.0 in let b = v.monitors in omega (arith, a, b) in
    let more = measure_more p s c.args.graph.now c.loop-monitor.totals c.shift.new.totals flags k
    c.deviation-deviation.result e.0 known c.deviation-deviation.ensures.value e.1 c.shift.ensures v.way in
    record {
      monitors = ap length e.2 ∙ length-set flags k false ∙ v.monitors;
      way = subst (λ (fs : List Bool). AreUnderWay p (λ i. get_or fs i false) s c.args.graph.now c.shift.new.totals)
          (sym e.2) more;
    }

pub returns-clause-totals : goal.returns-clause-totals
returns-clause-totals g c = all_measured c.args.inst.now (waits_in c.loop-monitor.waiting)
    (g.D.Deviations.slots c.args.deviations.now) c.args.graph.now c.loop-monitor.totals c.requires.rates c.in_default.ensures.2
    c.loop-monitor.invariant.way
