use Rattle.std.proofs.Common.{◌≡◌, ◌∙◌, IfSome, Some, true, sym, ap, subst}
use Rattle.std.specs.Option.{option_map}
use Rattle.khe_instance.specs.declared.points.Monitor.{Monitor}
use Rattle.khe_told.specs.Agreement.{deviation_in}
use Rattle.set_monitors.specs.OrderPairs.{is_order, value_of}
use Rattle.set_monitors.proofs.OrderWaitLaws.{value_is}
use Rattle.set_monitors.proofs.order_events.OrderEdgesKeeper.deviation.Goals as goal
use Rattle.khe_instance.proofs.MadeLemmas.{monitor_made}

pub value-requires-clause-monitor : goal.value-requires-clause-monitor
value-requires-clause-monitor c = monitor_made c.args.inst.now c.facts.ensures c.args.monitor.0 c.monitor.result
    c.monitor.ensures

pub returns-clause-value : goal.returns-clause-value
returns-clause-value c = λ s keeps.
    let p = c.args.inst.now in
    let f = c.args.self.now in
    let m = c.monitor.result in
    let there = c.monitor.ensures in
    let serves : is_order m.kind ≡ true = subst (λ o. IfSome o (λ (x : Monitor). is_order x.kind ≡ true)) there
    c.requires.served in
    let found = keeps.0.all c.args.monitor.0 m there serves in
    let is = value_is p f.posts f.lists s f.edges.items c.facts.ensures keeps.1 keeps.2
    keeps.3 found.0 _ found.1 (monitor_made p c.facts.ensures c.args.monitor.0 m there) serves in
    ap (option_map (deviation_in p s)) there
    ∙ ap Some (is ∙ ap (λ es. value_of p es m) (sym c.as_slice.ensures.value) ∙ sym c.value.ensures.value)
