use Rattle.std.proofs.Common.{◌*◌, ◌∙◌, length, sym, ap, subst, arith}
use Rattle.khe_instance.specs.declared.rules.Rule.{Rule}
use Rattle.khe_instance.specs.declared.rules.Rule.TheVariants.{AvoidUnavailableTimes}
use Rattle.hall_report.specs.Opening.{AreMarkedTo}
use Rattle.hall_report.specs.Strict.{wants_free}
use Rattle.hall_report.proofs.CellsOpened.{cells_marked, cells_same, row_room, wants_loose, wants_point, wants_rule}
use Rattle.hall_report.proofs.RulesOpened.{constraint_there, not_wants, point_there, resource_there}
use Rattle.hall_report.proofs.cells.mark_by.Goals as goal

pub constraint-constraint-requires : goal.constraint-constraint-requires
constraint-constraint-requires c = constraint_there c.args.inst.now c.args.number.0 c.monitor-monitor.result
    c.facts.ensures c.monitor-monitor.ensures

pub returns-then-not-is_strict : goal.returns-then-not-is_strict
returns-then-not-is_strict c =
    cells_same c.args.inst.now c.args.number.0 c.args.cells.now c.monitor-monitor.result c.requires.cells
    c.monitor-monitor.ensures
    (wants_loose c.args.inst.now c.monitor-monitor.result c.constraint-constraint.result.now
    c.constraint-constraint.ensures (sym c.is_strict.ensures ∙ c.if-not-is_strict.true))

pub returns-in_default : goal.returns-in_default
returns-in_default c =
    cells_same c.args.inst.now c.args.number.0 c.args.cells.now c.monitor-monitor.result c.requires.cells
    c.monitor-monitor.ensures
    (wants_rule c.args.inst.now c.monitor-monitor.result c.constraint-constraint.result.now
    c.constraint-constraint.ensures (sym c.is_strict.ensures ∙ c.if-not-is_strict.false)
    (not_wants c.constraint-constraint.result.now.rule c.in_default.not-AvoidUnavailableTimes))

pub returns-in_default-resource_of : goal.returns-in_default-resource_of
returns-in_default-resource_of c =
    cells_same c.args.inst.now c.args.number.0 c.args.cells.now c.monitor-monitor.result c.requires.cells
    c.monitor-monitor.ensures
    (wants_point c.args.inst.now c.monitor-monitor.result (sym c.resource_of.ensures ∙ c.in_default-resource_of.is))

pub overflow_mul-resource : goal.overflow_mul-resource
overflow_mul-resource c =
    let p = c.args.inst.now in
    let there = resource_there p c.monitor-monitor.result.point c.in-Some.resource
    (point_there p c.args.number.0 c.monitor-monitor.result c.constraint-constraint.result.now
    (AvoidUnavailableTimes c.in-AvoidUnavailableTimes.times) c.facts.ensures c.monitor-monitor.ensures
    c.constraint-constraint.ensures c.in-AvoidUnavailableTimes.is)
    (sym c.resource_of.ensures ∙ c.in-Some.is) in
    let room = row_room p c.in-Some.resource.0 c.times-2.result c.times.result there c.times-2.ensures
    c.times.ensures in
    let few = c.facts.ensures.limits.cells in
    omega (arith, room, few)

pub mark_cells-requires-clause-within : goal.mark_cells-requires-clause-within
mark_cells-requires-clause-within c =
    let p = c.args.inst.now in
    let there = resource_there p c.monitor-monitor.result.point c.in-Some.resource
    (point_there p c.args.number.0 c.monitor-monitor.result c.constraint-constraint.result.now
    (AvoidUnavailableTimes c.in-AvoidUnavailableTimes.times) c.facts.ensures c.monitor-monitor.ensures
    c.constraint-constraint.ensures c.in-AvoidUnavailableTimes.is)
    (sym c.resource_of.ensures ∙ c.in-Some.is) in
    let room = row_room p c.in-Some.resource.0 c.times-2.result c.times.result there c.times-2.ensures
    c.times.ensures in
    let size = c.requires.cells.size in
    omega (arith, room, size)

pub returns : goal.returns
returns c =
    let p = c.args.inst.now in
    cells_marked p c.args.number.0 c.args.cells.now c.mark_cells.new.cells c.monitor-monitor.result
    c.constraint-constraint.result.now c.in-Some.resource c.requires.cells c.monitor-monitor.ensures
    c.constraint-constraint.ensures
    (sym c.is_strict.ensures ∙ c.if-not-is_strict.false) (sym c.resource_of.ensures ∙ c.in-Some.is)
    c.in-AvoidUnavailableTimes.times (λ t. ap (λ (r : Rule). wants_free r t) c.in-AvoidUnavailableTimes.is)
    (subst (λ n. AreMarkedTo (c.in-Some.resource.0 * n) (length p.times) c.in-AvoidUnavailableTimes.times
    c.args.cells.now c.mark_cells.new.cells) c.times-2.ensures
    (subst (λ n. AreMarkedTo (c.in-Some.resource.0 * c.times-2.result) n c.in-AvoidUnavailableTimes.times
    c.args.cells.now c.mark_cells.new.cells) c.times.ensures c.mark_cells.ensures))
