-- What is measured is the deviation.
use Rattle.std.proofs.Common.{◌≡◌, ◌≤◌, ◌*◌, ◌∙◌, ℕ, true, Some, IfSome, slice_index, sym, ap, subst, arith}
use Rattle.std.specs.Option.{option_map}
use Rattle.khe_base.specs.declared.limits.TheConstants.{GREATEST_DEVIATION}
use Rattle.khe_instance.specs.WellMade.{IsMonitor}
use Rattle.khe_instance.specs.declared.points.Monitor.{Monitor}
use Rattle.khe_told.specs.Agreement.{deviation_in}
use Rattle.resource_monitors.specs.Loads.{is_on_workload, value_in}
use Rattle.resource_monitors.proofs.LoadFollowLaws.{small_then}
use Rattle.resource_monitors.proofs.LoadValueLaws.{value_is, value_small}
use Rattle.resource_monitors.proofs.limit_workload.WorkloadsKeeper.deviation.Goals as goal
use Rattle.khe_instance.proofs.MadeLemmas.{monitor_made}

pub value-requires-clause-monitor : goal.value-requires-clause-monitor
value-requires-clause-monitor c = monitor_made c.args.inst.now c.facts.ensures _ _ c.monitor-of.ensures

pub value-requires-clause-small : goal.value-requires-clause-small
value-requires-clause-small c =
    subst (λ xs. (r : ℕ) → slice_index xs r ≤ GREATEST_DEVIATION * c.args.inst.now.unit) (sym c.as_slice.ensures.value)
    (small_then c.args.inst.now c.facts.ensures c.requires.keeps.0 c.args.self.now.loads.items
    c.requires.keeps.1.told c.requires.keeps.1.loads_all)

pub returns-clause-value : goal.returns-clause-value
returns-clause-value c = λ s keeps.
    (let p = c.args.inst.now in
    let m = c.monitor-of.result in
    let is : IsMonitor p m = monitor_made p c.facts.ensures _ _ c.monitor-of.ensures in
    let kind : is_on_workload m.kind ≡ true = subst (λ o. IfSome o (λ (x : Monitor). is_on_workload x.kind ≡ true))
    c.monitor-of.ensures c.requires.served in
    ap (option_map (deviation_in p s)) c.monitor-of.ensures
    ∙ ap Some (value_is p s c.args.self.now.loads.items m is kind keeps.loads_all
    ∙ sym (c.value.ensures ∙ ap (λ xs. value_in p xs m) c.as_slice.ensures.value)))

pub returns-clause-small : goal.returns-clause-small
returns-clause-small c =
    let p = c.args.inst.now in
    let s = c.requires.keeps.0 in
    let kept = c.requires.keeps.1 in
    let m = c.monitor-of.result in
    let is : IsMonitor p m = monitor_made p c.facts.ensures _ _ c.monitor-of.ensures in
    let l = value_small p c.facts.ensures c.args.self.now.loads.items
    (small_then p c.facts.ensures s c.args.self.now.loads.items kept.told kept.loads_all) m is in
    let e = c.value.ensures ∙ ap (λ xs. value_in p xs m) c.as_slice.ensures.value in
    omega (arith, l, e)
