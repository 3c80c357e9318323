-- What is measured is the deviation, and none is above the greatest.
use Rattle.std.proofs.Common.{◌≤◌, ℕ, subst, sym}
use Rattle.khe_base.specs.declared.limits.TheConstants.{GREATEST_DEVIATION}
use Rattle.resource_deviations.proofs.FilledLemmas.{filled-small}
use Rattle.khe_instance.proofs.MadeLemmas.{constraint_made, monitored}
use Rattle.resource_deviations.proofs.deviations.ResourceDeviations.deviation.Goals as goal

pub returns-clause-bound : goal.returns-clause-bound
returns-clause-bound c =
    let p = c.args.self.now.inst.now in
    let ds = c.args.self.now.duties.now in
    let made = c.facts.ensures in
    let constraint = c.constraint.result.now in
    let Small : ℕ → Type 0 = λ n. n ≤ GREATEST_DEVIATION in
    subst Small (sym c.of_rule.ensures)
    (filled-small p ds c.args.self.now.rows.of.items c.args.self.now.rows.count c.args.self.now.table c.args.self.now.workloads.items c.args.self.now.filled made.limits
    made.unit.positive constraint.rule c.in-Resource.r.0
    (constraint_made p made c.args.monitor.constraint constraint c.constraint.ensures).rule)

pub of_rule-requires-clause-resource : goal.of_rule-requires-clause-resource
of_rule-requires-clause-resource c = monitored c.args.self.now.inst.now c.args.monitor c.in-Resource.r
    c.requires.monitor c.in-Resource.is
