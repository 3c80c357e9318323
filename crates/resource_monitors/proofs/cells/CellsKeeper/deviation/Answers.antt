-- What is measured is the deviation.
use Rattle.std.proofs.Common.{◌≡◌, ◌∙◌, true, Some, IfSome, sym, ap, subst, arith}
use Rattle.std.specs.Option.{option_map}
use Rattle.khe_instance.specs.declared.points.Monitor.{Monitor}
use Rattle.khe_instance.specs.WellMade.{IsMonitor}
use Rattle.khe_told.specs.Agreement.{deviation_in}
use Rattle.resource_monitors.specs.Cells.{is_at_cells}
use Rattle.resource_monitors.proofs.MeasureLaws.{value_is}
use Rattle.resource_monitors.proofs.SmallLaws.{value_small}
use Rattle.resource_monitors.proofs.StateLaws.{tasks_few}
use Rattle.resource_monitors.proofs.cells.CellsKeeper.deviation.Goals as goal
use Rattle.khe_instance.proofs.MadeLemmas.{monitor_made}

pub value-requires-clause-monitor : goal.value-requires-clause-monitor
value-requires-clause-monitor g c = monitor_made c.args.inst.now c.facts.ensures _ _ c.monitor-of.ensures

pub value-requires-clause-kind : goal.value-requires-clause-kind
value-requires-clause-kind g c = g.met.K.CellKinds.at_cells c.monitor-of.result.kind
    (subst (λ o. IfSome o (λ (m : Monitor). g.K.CellKinds.serves_kind m.kind ≡ true)) c.monitor-of.ensures
    c.requires.served)

pub returns-clause-value : goal.returns-clause-value
returns-clause-value g c = λ s keeps.
    (let p = c.args.inst.now in
    let m = c.monitor-of.result in
    let is : IsMonitor p m = monitor_made p c.facts.ensures _ _ c.monitor-of.ensures in
    let kind : is_at_cells m.kind ≡ true = g.met.K.CellKinds.at_cells m.kind
    (subst (λ o. IfSome o (λ (x : Monitor). g.K.CellKinds.serves_kind x.kind ≡ true)) c.monitor-of.ensures
    c.requires.served) in
    ap (option_map (deviation_in p s)) c.monitor-of.ensures
    ∙ ap Some (value_is p s c.args.self.now.table m is kind keeps.counts ∙ sym c.value.ensures))

pub returns-clause-small : goal.returns-clause-small
returns-clause-small g c =
    let p = c.args.inst.now in
    let s = c.requires.keeps.0 in
    let kept = c.requires.keeps.1 in
    let m = c.monitor-of.result in
    let is : IsMonitor p m = monitor_made p c.facts.ensures _ _ c.monitor-of.ensures in
    let l = value_small p c.facts.ensures c.args.self.now.table
    (λ r t. (let a = kept.counts r t in let b = tasks_few p c.facts.ensures s kept.told r t in
    omega (arith, a, b))) m is in
    let e = c.value.ensures in
    omega (arith, l, e)
