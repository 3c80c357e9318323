-- A monitor of an instance has a constraint and a point that are there.
use Rattle.evaluation_report.proofs.MonitorsLemmas.{constraint-within, constraint-rule, monitor-named}
use Rattle.evaluation_report.proofs.lines.push_monitor_line.Goals as goal

pub constraint-constraint-requires : goal.constraint-constraint-requires
constraint-constraint-requires c =
    constraint-within c.args.inst.now c.facts.ensures c.args.m.0 c.monitor-monitor.result c.monitor-monitor.ensures

pub push_point-requires-clause-rule : goal.push_point-requires-clause-rule
push_point-requires-clause-rule c =
    constraint-rule c.args.inst.now c.facts.ensures c.monitor-monitor.result.constraint
    c.constraint-constraint.result.now c.constraint-constraint.ensures

pub push_point-requires-clause-point : goal.push_point-requires-clause-point
push_point-requires-clause-point c =
    monitor-named c.args.inst.now c.facts.ensures c.args.m.0 c.monitor-monitor.result c.monitor-monitor.ensures
