use Rattle.std.proofs.Common.{ℕ, ◌+◌, ◌&&◌, ◌<◌, ◌≡◌, ◌≢◌, ◌∙◌, length, sym, ap, subst, arith}
use Rattle.khe_base.specs.IdSet.{has_member}
use Rattle.khe_instance.specs.declared.rules.Rule.{Rule}
use Rattle.khe_instance.specs.declared.rules.Rule.TheVariants.{PreferResources}
use Rattle.hall_report.specs.Picks.{resource_entry}
use Rattle.hall_report.specs.Sets.{AreSets, set_at}
use Rattle.hall_report.specs.Strict.{lets_have}
use Rattle.hall_report.proofs.RulesOpened.{constraint_there, not_haves, point_there, role_there, rule_there}
use Rattle.hall_report.proofs.ResourcesOpened.{entry_below, event_within, have_loose, have_point, have_rule}
use Rattle.hall_report.proofs.ResourcesOpened.{resources_narrowed, resources_same, role_place}
use Rattle.hall_report.proofs.resource_sets.narrow_by.Goals as goal

pub constraint-constraint-requires : goal.constraint-constraint-requires
constraint-constraint-requires c = constraint_there c.args.inst.now c.args.number.0 c.monitor-monitor.result
    c.facts.ensures c.monitor-monitor.ensures

pub returns-then-not-is_strict : goal.returns-then-not-is_strict
returns-then-not-is_strict c =
    resources_same c.args.inst.now c.args.number.0 c.args.found.now.sets c.args.found.now.entries.items
    c.monitor-monitor.result c.requires.sets c.monitor-monitor.ensures
    (have_loose c.args.inst.now c.monitor-monitor.result c.constraint-constraint.result.now
    c.constraint-constraint.ensures (sym c.is_strict.ensures ∙ c.if-not-is_strict.true))

pub returns-in_default : goal.returns-in_default
returns-in_default c =
    resources_same c.args.inst.now c.args.number.0 c.args.found.now.sets c.args.found.now.entries.items
    c.monitor-monitor.result c.requires.sets c.monitor-monitor.ensures
    (have_rule c.args.inst.now c.monitor-monitor.result c.constraint-constraint.result.now
    c.constraint-constraint.ensures (sym c.is_strict.ensures ∙ c.if-not-is_strict.false)
    (not_haves c.constraint-constraint.result.now.rule c.in_default.not-PreferResources))

pub returns-in_default-place_of : goal.returns-in_default-place_of
returns-in_default-place_of c =
    resources_same c.args.inst.now c.args.number.0 c.args.found.now.sets c.args.found.now.entries.items
    c.monitor-monitor.result c.requires.sets c.monitor-monitor.ensures
    (have_point c.args.inst.now c.monitor-monitor.result (sym c.place_of.ensures ∙ c.in_default-place_of.is))

pub first_entry-requires : goal.first_entry-requires
first_entry-requires c =
    let p = c.args.inst.now in
    let mine = role_place p.events c.in-Some.event.0 c.in-Some.place c.in-PreferResources.role
    (role_there p c.monitor-monitor.result.point c.in-PreferResources.role c.in-Some.event c.in-Some.place
    (point_there p c.args.number.0 c.monitor-monitor.result c.constraint-constraint.result.now
    (PreferResources c.in-PreferResources.resources c.in-PreferResources.role) c.facts.ensures
    c.monitor-monitor.ensures c.constraint-constraint.ensures c.in-PreferResources.is)
    (sym c.place_of.ensures ∙ c.in-Some.is)) in
    event_within p c.in-Some.event.0 c.in-Some.place mine.0 mine.1

pub overflow_add-entry : goal.overflow_add-entry
overflow_add-entry c =
    let p = c.args.inst.now in
    let mine = role_place p.events c.in-Some.event.0 c.in-Some.place c.in-PreferResources.role
    (role_there p c.monitor-monitor.result.point c.in-PreferResources.role c.in-Some.event c.in-Some.place
    (point_there p c.args.number.0 c.monitor-monitor.result c.constraint-constraint.result.now
    (PreferResources c.in-PreferResources.resources c.in-PreferResources.role) c.facts.ensures
    c.monitor-monitor.ensures c.constraint-constraint.ensures c.in-PreferResources.is)
    (sym c.place_of.ensures ∙ c.in-Some.is)) in
    let below = entry_below p c.in-Some.event.0 c.in-Some.place mine.0 c.facts.ensures mine.1 in
    let first = c.first_entry.ensures in
    let few = c.facts.ensures.limits.tasks in
    omega (arith, below, first, few)

pub narrow-requires-clause-entry : goal.narrow-requires-clause-entry
narrow-requires-clause-entry c =
    let p = c.args.inst.now in
    let mine = role_place p.events c.in-Some.event.0 c.in-Some.place c.in-PreferResources.role
    (role_there p c.monitor-monitor.result.point c.in-PreferResources.role c.in-Some.event c.in-Some.place
    (point_there p c.args.number.0 c.monitor-monitor.result c.constraint-constraint.result.now
    (PreferResources c.in-PreferResources.resources c.in-PreferResources.role) c.facts.ensures
    c.monitor-monitor.ensures c.constraint-constraint.ensures c.in-PreferResources.is)
    (sym c.place_of.ensures ∙ c.in-Some.is)) in
    let below = entry_below p c.in-Some.event.0 c.in-Some.place mine.0 c.facts.ensures mine.1 in
    let first = c.first_entry.ensures in
    let many = c.requires.sets.amount in
    omega (arith, below, first, many)

pub narrow-requires-clause-sets : goal.narrow-requires-clause-sets
narrow-requires-clause-sets c =
    let p = c.args.inst.now in
    let rule = rule_there p c.args.number.0 c.monitor-monitor.result c.constraint-constraint.result.now
    (PreferResources c.in-PreferResources.resources c.in-PreferResources.role) c.facts.ensures
    c.constraint-constraint.ensures c.in-PreferResources.is in
    subst (λ n. AreSets n (length c.in-PreferResources.resources) c.args.found.now.sets c.args.found.now.entries.items)
    (sym c.types.ensures) (subst (λ n. AreSets p.types n c.args.found.now.sets c.args.found.now.entries.items)
    (sym rule) c.requires.sets.are)

pub returns : goal.returns
returns c =
    let p = c.args.inst.now in
    let mine = role_place p.events c.in-Some.event.0 c.in-Some.place c.in-PreferResources.role
    (role_there p c.monitor-monitor.result.point c.in-PreferResources.role c.in-Some.event c.in-Some.place
    (point_there p c.args.number.0 c.monitor-monitor.result c.constraint-constraint.result.now
    (PreferResources c.in-PreferResources.resources c.in-PreferResources.role) c.facts.ensures
    c.monitor-monitor.ensures c.constraint-constraint.ensures c.in-PreferResources.is)
    (sym c.place_of.ensures ∙ c.in-Some.is)) in
    let rule = rule_there p c.args.number.0 c.monitor-monitor.result c.constraint-constraint.result.now
    (PreferResources c.in-PreferResources.resources c.in-PreferResources.role) c.facts.ensures
    c.constraint-constraint.ensures c.in-PreferResources.is in
    let entry : c.first_entry.result + c.in-Some.place ≡ resource_entry p.events c.in-Some.event.0 c.in-Some.place =
    ap (λ n. n + c.in-Some.place) c.first_entry.ensures in
    resources_narrowed p c.args.number.0 c.args.found.now.sets c.narrow.new.sets c.args.found.now.entries.items
    c.narrow.new.entries.items c.monitor-monitor.result c.constraint-constraint.result.now c.in-Some.event
    c.in-Some.place mine.0
    c.facts.ensures c.requires.sets c.monitor-monitor.ensures c.constraint-constraint.ensures
    (sym c.is_strict.ensures ∙ c.if-not-is_strict.false) (sym c.place_of.ensures ∙ c.in-Some.is) mine.1
    (subst (λ n. AreSets n (length p.resources) c.narrow.new.sets c.narrow.new.entries.items) c.types.ensures
    (subst (λ n. AreSets c.types.result n c.narrow.new.sets c.narrow.new.entries.items) rule
    c.in_ok-narrow.ensures.sets))
    c.in_ok-narrow.ensures.amount
    (subst (λ i. (r : ℕ) → has_member (set_at c.narrow.new.sets c.narrow.new.entries.items i) r
    ≡ has_member (set_at c.args.found.now.sets c.args.found.now.entries.items i) r && lets_have
    c.constraint-constraint.result.now.rule r) entry
    (λ r. c.in_ok-narrow.ensures.narrowed r ∙ ap (λ (z : Rule). has_member
    (set_at c.args.found.now.sets c.args.found.now.entries.items (c.first_entry.result + c.in-Some.place))
    r && lets_have z r) (sym c.in-PreferResources.is)))
    (subst (λ j. (i : ℕ) → i < length c.args.found.now.entries.items → i ≢ j
    → set_at c.narrow.new.sets c.narrow.new.entries.items i
    ≡ set_at c.args.found.now.sets c.args.found.now.entries.items i) entry c.in_ok-narrow.ensures.others)
