-- What is measured of the workload after the effects.
use Rattle.std.proofs.Common.{◌≡◌, ◌∙◌, true, Some, IfSome, sym, ap, subst}
use Rattle.std.specs.Option.{option_map}
use Rattle.khe_instance.specs.declared.points.Monitor.{Monitor}
use Rattle.khe_instance.proofs.MadeLemmas.{monitor_made}
use Rattle.khe_told.specs.Agreement.{deviation_in}
use Rattle.khe_told.specs.Effects.{turned_all}
use Rattle.resource_monitors.specs.Loads.{HasLoads, is_on_workload}
use Rattle.resource_monitors.proofs.limit_workload.WorkloadsKeeper.deviation_after.Goals as goal

pub value_after-requires-clause-loads : goal.value_after-requires-clause-loads
value_after-requires-clause-loads c = subst (HasLoads c.args.inst.now c.args.told.now) (sym c.as_slice.ensures.value)
    c.requires.keeps.loads_all

pub value_after-requires-clause-monitor : goal.value_after-requires-clause-monitor
value_after-requires-clause-monitor c = monitor_made c.args.inst.now c.facts.ensures _ _ c.monitor-of.ensures

pub value_after-requires-clause-kind : goal.value_after-requires-clause-kind
value_after-requires-clause-kind c = subst (λ o. IfSome o (λ (x : Monitor). is_on_workload x.kind ≡ true))
    c.monitor-of.ensures c.requires.served

pub returns-clause-value : goal.returns-clause-value
returns-clause-value c =
    ap (option_map (deviation_in c.args.inst.now (turned_all c.args.told.now c.args.effects.now))) c.monitor-of.ensures
    ∙ ap Some (sym c.value_after.ensures.value)
