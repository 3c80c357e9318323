-- One that waits is measured, and all others stay as they are.
use Rattle.std.proofs.Common.{◌<◌, get_or, length, slice_get, length-set, sym, ap, ◌∙◌, arith}
use Rattle.std.specs.Prelude.{Bool, List, ℕ, false}
use Rattle.monitor_graph.specs.Boards.{deviations_of}
use Rattle.khe_engine.proofs.SettleLaws.{measured_one, served_all}
use Rattle.khe_engine.proofs.ValueLaws.{all_set}
use Rattle.khe_engine.proofs.settling.settle.Goals as goal

pub returns-clause-values : goal.returns-clause-values
returns-clause-values g c =
    let v = c.loop-monitor.invariant in
    all_set c.args.inst.now (g.F.Family.told c.args.families.now) c.args.graph.now c.loop-monitor.graph c.requires.rates
    v.rest v.many (λ i m at. v.others i m at (c.in_default.ensures.2 i))

pub deviation-deviation-requires : goal.deviation-deviation-requires
deviation-deviation-requires g c = record {
  of = c.requires.of;
  known = let a = c.in-Some.ensures.0 in let b = c.loop-monitor.invariant.monitors in omega (arith, a, b);
  served = served_all g.F.Family.serves_kind (slice_get c.args.inst.now.monitors c.in-Some.monitor.0) c.requires.serves;
}

pub set-requires : goal.set-requires
set-requires g c = record {
  known =
      let a = c.in-Some.ensures.0 in
      let b = c.loop-monitor.invariant.monitors in
      let d = c.loop-monitor.invariant.many in
      omega (arith, a, b, d);
  small = c.deviation-deviation.ensures.small;
}

pub loop-monitor-preserved : goal.loop-monitor-preserved
loop-monitor-preserved g c =
    let v = c.loop-monitor.invariant in
    let e = c.in-Some.ensures in
    let p = c.args.inst.now in
    let s = g.F.Family.told c.args.families.now in
    let flags = c.loop-monitor.waiting.flags in
    let ds = deviations_of c.loop-monitor.graph in
    let k = c.in-Some.monitor.0 in
    let r = c.deviation-deviation.result in
    let known : k < length p.monitors = let a = e.0 in let b = v.monitors in omega (arith, a, b) in
    let set = c.set.ensures.set in
    let rest = c.set.ensures.rest in
    record {
      monitors = ap length e.2 ∙ length-set flags k false ∙ v.monitors;
      many = ap length set ∙ length-set ds k r ∙ v.many;
      others = λ i m at w. ap (λ (xs : List ℕ). slice_get xs i) set
          ∙ measured_one p s ds flags k r v.many known c.deviation-deviation.ensures.value v.others i m at
          (sym (ap (λ (fs : List Bool). get_or fs i false) e.2) ∙ w);
      rest = record {
        lines = v.rest.lines ∙ rest.lines;
        groups = v.rest.groups ∙ rest.groups;
        marked = v.rest.marked ∙ rest.marked;
        seats = v.rest.seats ∙ rest.seats;
      };
      steps = let a = e.3 in let b = c.set.ensures.steps in let d = v.steps in omega (arith, a, b, d);
    }
