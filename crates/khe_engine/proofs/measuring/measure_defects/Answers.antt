-- The list has each once, so what is at its place was not measured before.
use Rattle.std.proofs.Common.{◌+◌, List, take, get_or, subst, sym, inl, arith}
use Rattle.std.proofs.lemmas.List.{take_all, take_more}
use Rattle.khe_base.specs.declared.sums.Totals.{Totals}
use Rattle.khe_base.specs.declared.numbers.MonitorId.{MonitorId}
use Rattle.khe_told.proofs.WaitingLaws.{within}
use Rattle.monitor_graph.proofs.ValueLaws.{as_many}
use Rattle.khe_engine.specs.Lower.{AreBegun}
use Rattle.khe_engine.proofs.LowerLaws.{begun_more, begun_passed, begun_start, listed_waits, not_before, open_start}
use Rattle.khe_engine.proofs.measuring.measure_defects.Goals as goal
use Rattle.khe_engine.proofs.measuring.measure_defects.Goals.{then-deviation-gt0, else-deviation-gt0}

abbrev none : MonitorId
none = record { 0 = 0 }

pub loop-monitor-init : goal.loop-monitor-init
loop-monitor-init g c = record {
  begun = begun_start c.args.inst.now (g.D.Deviations.slots c.args.deviations.now) c.args.graph.now c.args.totals.now
      c.requires.rates c.requires.whole;
}

pub deviation-requires : goal.deviation-requires
deviation-requires g c =
    let list = c.as_slice-monitor-items.result.now in
    let k = c.loop-monitor.monitor-index in
    let flags = c.args.waiting.now.flags in
    let l = within flags (get_or list k none).0
    (listed_waits list flags k none c.as_slice-monitor-items.ensures c.loop-monitor-test.true) in
    let m = c.requires.monitors in
    let n = as_many c.args.graph.now c.args.inst.now c.requires.rates in
    omega (arith, l, m, n)

pub deviation-deviation-requires : goal.deviation-deviation-requires
deviation-deviation-requires g c =
    let list = c.as_slice-monitor-items.result.now in
    let k = c.loop-monitor.monitor-index in
    let flags = c.args.waiting.now.flags in
    let l = within flags (get_or list k none).0
    (listed_waits list flags k none c.as_slice-monitor-items.ensures c.loop-monitor-test.true) in
    let m = c.requires.monitors in
    record {
      of = c.requires.of;
      known = omega (arith, l, m);
    }

pub shift-requires-clause-known : goal.shift-requires-clause-known
shift-requires-clause-known g c =
    let list = c.as_slice-monitor-items.result.now in
    let k = c.loop-monitor.monitor-index in
    let flags = c.args.waiting.now.flags in
    let l = within flags (get_or list k none).0
    (listed_waits list flags k none c.as_slice-monitor-items.ensures c.loop-monitor-test.true) in
    let m = c.requires.monitors in
    let n = as_many c.args.graph.now c.args.inst.now c.requires.rates in
    omega (arith, l, m, n)

pub shift-requires-clause-before : goal.shift-requires-clause-before
shift-requires-clause-before g c =
    let list = c.as_slice-monitor-items.result.now in
    let k = c.loop-monitor.monitor-index in
    let h = c.loop-monitor.invariant.begun in (
      h.ds,
      h.totals_,
      h.still (get_or list k none).0
          (inl (not_before list c.args.waiting.now.flags k none c.as_slice-monitor-items.ensures c.loop-monitor-test.true)),
    )

pub loop-monitor-preserved : goal.loop-monitor-preserved
loop-monitor-preserved g c = elim c.if-deviation-gt0.branch [
  | then-deviation-gt0 w ↦ (
      let list = c.as_slice-monitor-items.result.now in
      let flags = c.args.waiting.now.flags in
      let k = c.loop-monitor.monitor-index in
      let m = get_or list k none in
      let p = c.args.inst.now in
      let s = g.D.Deviations.slots c.args.deviations.now in
      let b = c.args.graph.now in
      let l = within flags m.0 (listed_waits list flags k none c.as_slice-monitor-items.ensures c.loop-monitor-test.true) in
      let long = c.requires.monitors in
      let some = w.if-deviation-gt0.true in
      let e = c.deviation.ensures in
      record {
        begun = subst (λ (t : Totals). AreBegun p s b (take (k + 1) list) t) (sym w.totals-is)
            (subst (λ (xs : List MonitorId). AreBegun p s b xs w.shift.new.totals)
            (sym (take_more list k none c.loop-monitor-test.true))
            (begun_more p s b (take k list) c.loop-monitor.totals w.shift.new.totals m w.deviation-deviation.result
            (omega (arith, l, long))
            (not_before list flags k none c.as_slice-monitor-items.ensures c.loop-monitor-test.true)
            (λ z. omega (arith, z, some, e))
            w.deviation-deviation.ensures.value w.shift.ensures c.loop-monitor.invariant.begun));
      })
  | else-deviation-gt0 w ↦ (
      let list = c.as_slice-monitor-items.result.now in
      let k = c.loop-monitor.monitor-index in
      let m = get_or list k none in
      let p = c.args.inst.now in
      let s = g.D.Deviations.slots c.args.deviations.now in
      let b = c.args.graph.now in
      let low = w.if-deviation-gt0.false in
      let e = c.deviation.ensures in
      record {
        begun = subst (λ (t : Totals). AreBegun p s b (take (k + 1) list) t) (sym w.totals-is)
            (subst (λ (xs : List MonitorId). AreBegun p s b xs c.loop-monitor.totals)
            (sym (take_more list k none c.loop-monitor-test.true))
            (begun_passed p s b (take k list) c.loop-monitor.totals m (omega (arith, low, e))
            c.loop-monitor.invariant.begun));
      })
]

pub returns : goal.returns
returns g c =
    let list = c.as_slice-monitor-items.result.now in
    let p = c.args.inst.now in
    let s = g.D.Deviations.slots c.args.deviations.now in
    let b = c.args.graph.now in
    open_start p s b c.loop-monitor.totals list c.args.waiting.now.flags c.requires.rates c.as_slice-monitor-items.ensures
    c.requires.others
    (subst (λ (xs : List MonitorId). AreBegun p s b xs c.loop-monitor.totals)
    (take_all c.loop-monitor.monitor-index list c.loop-monitor-test.false) c.loop-monitor.invariant.begun)
