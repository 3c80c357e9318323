use Rattle.std.proofs.Common.{◌+◌, ◌∙◌, length, sym, ap, subst, arith}
use Rattle.khe_instance.specs.declared.rules.Rule.{Rule}
use Rattle.khe_instance.specs.declared.rules.Rule.TheVariants.{PreferTimes}
use Rattle.hall_report.proofs.RulesOpened.{constraint_there, event_there, not_starts, point_there, rule_there}
use Rattle.hall_report.proofs.RulesOpened.{slots_within}
use Rattle.hall_report.proofs.SetsOpened.{lets_loose, lets_point, lets_rule, starts_narrowed, starts_same}
use Rattle.hall_report.specs.Opening.{AreNarrowedBy}
use Rattle.hall_report.specs.Sets.{AreSets}
use Rattle.hall_report.proofs.start_sets.narrow_by.Goals as goal

pub constraint-constraint-requires : goal.constraint-constraint-requires
constraint-constraint-requires c = constraint_there c.args.inst.now c.args.number.0 c.monitor-monitor.result
    c.facts.ensures c.monitor-monitor.ensures

pub returns-then-not-is_strict : goal.returns-then-not-is_strict
returns-then-not-is_strict c =
    starts_same c.args.inst.now c.args.number.0 c.args.starts.now.sets c.args.starts.now.entries.items
    c.monitor-monitor.result c.requires.sets c.monitor-monitor.ensures
    (lets_loose c.args.inst.now c.monitor-monitor.result c.constraint-constraint.result.now
    c.constraint-constraint.ensures (sym c.is_strict.ensures ∙ c.if-not-is_strict.true))

pub returns-in_default : goal.returns-in_default
returns-in_default c =
    starts_same c.args.inst.now c.args.number.0 c.args.starts.now.sets c.args.starts.now.entries.items
    c.monitor-monitor.result c.requires.sets c.monitor-monitor.ensures
    (lets_rule c.args.inst.now c.monitor-monitor.result c.constraint-constraint.result.now
    c.constraint-constraint.ensures (sym c.is_strict.ensures ∙ c.if-not-is_strict.false)
    (not_starts c.constraint-constraint.result.now.rule c.in_default.not-PreferTimes))

pub returns-in_default-event_of : goal.returns-in_default-event_of
returns-in_default-event_of c =
    starts_same c.args.inst.now c.args.number.0 c.args.starts.now.sets c.args.starts.now.entries.items
    c.monitor-monitor.result c.requires.sets c.monitor-monitor.ensures
    (lets_point c.args.inst.now c.monitor-monitor.result (sym c.event_of.ensures ∙ c.in_default-event_of.is))

pub event-event-requires : goal.event-event-requires
event-event-requires c =
    event_there c.args.inst.now c.monitor-monitor.result.point c.in-Some.event
    (point_there c.args.inst.now c.args.number.0 c.monitor-monitor.result c.constraint-constraint.result.now
    (PreferTimes c.in-PreferTimes.times c.in-PreferTimes.duration) c.facts.ensures c.monitor-monitor.ensures
    c.constraint-constraint.ensures c.in-PreferTimes.is)
    (sym c.event_of.ensures ∙ c.in-Some.is)

pub narrow_event-requires-clause-within : goal.narrow_event-requires-clause-within
narrow_event-requires-clause-within c =
    let a = slots_within c.args.inst.now c.in-Some.event.0 c.event-event.result.now c.facts.ensures
    c.event-event.ensures in
    let b = c.requires.sets.amount in
    omega (arith, a, b)

pub narrow_event-requires-clause-sets : goal.narrow_event-requires-clause-sets
narrow_event-requires-clause-sets c =
    let p = c.args.inst.now in
    let rule = rule_there p c.args.number.0 c.monitor-monitor.result c.constraint-constraint.result.now
    (PreferTimes c.in-PreferTimes.times c.in-PreferTimes.duration) c.facts.ensures c.constraint-constraint.ensures
    c.in-PreferTimes.is in
    subst (λ n. AreSets n (length c.in-PreferTimes.times) c.args.starts.now.sets c.args.starts.now.entries.items)
    (ap (λ n. n + 2) (sym c.times.ensures))
    (subst (λ n. AreSets (length p.times + 2) n c.args.starts.now.sets c.args.starts.now.entries.items) (sym rule.0)
    c.requires.sets.are)

pub returns : goal.returns
returns c =
    let p = c.args.inst.now in
    let rule = rule_there p c.args.number.0 c.monitor-monitor.result c.constraint-constraint.result.now
    (PreferTimes c.in-PreferTimes.times c.in-PreferTimes.duration) c.facts.ensures c.constraint-constraint.ensures
    c.in-PreferTimes.is in
    starts_narrowed p c.args.number.0 c.args.starts.now.sets c.narrow_event.new.starts.sets
    c.args.starts.now.entries.items c.narrow_event.new.starts.entries.items c.monitor-monitor.result
    c.constraint-constraint.result.now c.in-Some.event c.event-event.result.now
    c.facts.ensures c.requires.sets c.monitor-monitor.ensures c.constraint-constraint.ensures
    (sym c.is_strict.ensures ∙ c.if-not-is_strict.false) (sym c.event_of.ensures ∙ c.in-Some.is)
    c.event-event.ensures
    (subst (λ n. AreSets (n + 2) (length p.times) c.narrow_event.new.starts.sets
    c.narrow_event.new.starts.entries.items) c.times.ensures
    (subst (λ n. AreSets (c.times.result + 2) n c.narrow_event.new.starts.sets c.narrow_event.new.starts.entries.items)
    rule.0 c.in_ok-narrow_event.ensures.sets))
    (subst (λ (r : Rule). AreNarrowedBy r c.event-event.result.now.first_meet c.event-event.result.now.duration
    c.args.starts.now.sets c.args.starts.now.entries.items c.narrow_event.new.starts.sets
    c.narrow_event.new.starts.entries.items) (sym c.in-PreferTimes.is) c.in_ok-narrow_event.ensures.narrowed)
