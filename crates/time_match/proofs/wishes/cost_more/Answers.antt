use Rattle.std.proofs.Common.{Some, length, slice_get, subst, sym, ◌≡◌, ◌<◌, ◌∙◌}
use Rattle.std.proofs.lemmas.Option.{slice_get_within}
use Rattle.khe_instance.specs.declared.parts.Parts.{Parts}
use Rattle.khe_instance.proofs.MadeLemmas.{constraint_made, monitor_made}
use Rattle.time_match.proofs.WishLaws.{more_attached, more_detached}
use Rattle.time_match.proofs.wishes.cost_more.Goals as goal

pub constraint-own-requires : goal.constraint-own-requires
constraint-own-requires g c =
    let p = c.args.engine.now.parts in
    let m = c.monitor-monitor.result in
    let at = subst (λ (q : Parts). slice_get q.monitors c.args.number.0 ≡ Some m) c.instance-inst.ensures
    c.monitor-monitor.ensures in
    let is = monitor_made p c.facts.ensures.made c.args.number.0 m at in
    subst (λ (q : Parts). m.constraint < length q.constraints) (sym c.instance-inst.ensures)
    (slice_get_within p.constraints m.constraint is.0 is.1)

pub cost-requires-clause-weight : goal.cost-requires-clause-weight
cost-requires-clause-weight g c =
    let p = c.args.engine.now.parts in
    let m = c.monitor-monitor.result in
    let own = c.constraint-own.result.now in
    let there = subst (λ (q : Parts). slice_get q.constraints m.constraint ≡ Some own) c.instance-inst.ensures
    c.constraint-own.ensures in
    (constraint_made p c.facts.ensures.made m.constraint own there).weight

pub returns-then-not-attached-clause-is : goal.returns-then-not-attached-clause-is
returns-then-not-attached-clause-is g c =
    let m = c.monitor-monitor.result in
    more_detached c.args.engine.now.parts c.args.engine.now.state c.args.more c.args.number.0 m
    (subst (λ (q : Parts). slice_get q.monitors c.args.number.0 ≡ Some m) c.instance-inst.ensures
    c.monitor-monitor.ensures) (sym c.attached.ensures ∙ c.if-not-attached.true)

pub returns-clause-is : goal.returns-clause-is
returns-clause-is g c =
    let m = c.monitor-monitor.result in
    let own = c.constraint-own.result.now in
    more_attached c.args.engine.now.parts c.args.engine.now.state c.args.more c.args.number.0 m own c.deviation.result
    c.capped-deviation.result c.cost.result
    (subst (λ (q : Parts). slice_get q.monitors c.args.number.0 ≡ Some m) c.instance-inst.ensures
    c.monitor-monitor.ensures) (sym c.attached.ensures ∙ c.if-not-attached.false)
    (subst (λ (q : Parts). slice_get q.constraints m.constraint ≡ Some own) c.instance-inst.ensures
    c.constraint-own.ensures) c.deviation.ensures c.capped-deviation.ensures.is c.cost.ensures.exact
