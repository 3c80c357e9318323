use Rattle.std.proofs.Common.{◌∙◌, sym, ap, ◌-◌, ℕ, Bool, List, length, slice_get, count_by, not, ◌&&◌, arith}
use Rattle.std.specs.List.{range_with_len}
use Rattle.khe_instance.specs.Deviation.{group_deviation}
use Rattle.khe_instance.specs.declared.rules.Rule.{Rule}
use Rattle.event_deviations.specs.Groups.{has_duty_among, spread_over, some_run, all_run}
use Rattle.event_deviations.proofs.GroupLemmas.{by_members, split-is, spread-is}
use Rattle.event_deviations.proofs.deviations.at_group.Goals as goal
use Rattle.khe_instance.proofs.ResourceBounds.{counted}

pub returns-in-AvoidSplitAssignments-clause-exact : goal.returns-in-AvoidSplitAssignments-clause-exact
returns-in-AvoidSplitAssignments-clause-exact c =
    let s = c.args.index.now in
    let role = c.in-AvoidSplitAssignments.role in
    let value = λ (es : List ℕ). count_by (has_duty_among s.parts.events s.duties role es)
    (range_with_len 0 (length s.parts.resources)) - 1 in
    let of_group = λ (set : List Bool). group_deviation s.parts s.meets s.duties c.args.rule.now set in
    c.split_assignments.ensures.exact
    ∙ by_members value of_group
    (λ set. split-is s.parts.events s.duties set role (length s.parts.resources)
    ∙ ap (λ (r : Rule). group_deviation s.parts s.meets s.duties r set) (sym c.in-AvoidSplitAssignments.is))
    (slice_get s.parts.groups c.args.group) c.members-events.result.now c.members-events.ensures.are

pub returns-in-AvoidSplitAssignments-clause-bound : goal.returns-in-AvoidSplitAssignments-clause-bound
returns-in-AvoidSplitAssignments-clause-bound c =
    let s = c.args.index.now in
    let holds = has_duty_among s.parts.events s.duties c.in-AvoidSplitAssignments.role c.members-events.result.now in
    omega (
      arith,
      c.split_assignments.ensures.exact,
      counted holds (length s.parts.resources),
      c.facts.ensures.made.limits.resources,
    )

pub returns-in-SpreadEvents-clause-exact : goal.returns-in-SpreadEvents-clause-exact
returns-in-SpreadEvents-clause-exact c =
    let s = c.args.index.now in
    let spreads = c.in-SpreadEvents.groups in
    let of_group = λ (set : List Bool). group_deviation s.parts s.meets s.duties c.args.rule.now set in
    c.spread_events.ensures.exact ∙ ap (λ ss. spread_over s.meets ss c.members-events.result.now) c.as_slice.ensures
    ∙ by_members (spread_over s.meets spreads) of_group
    (λ set. spread-is s.meets set spreads ∙ ap (λ (r : Rule). group_deviation s.parts s.meets s.duties r set)
    (sym c.in-SpreadEvents.is))
    (slice_get s.parts.groups c.args.group) c.members-events.result.now c.members-events.ensures.are

pub returns-in-LinkEvents-clause-bound : goal.returns-in-LinkEvents-clause-bound
returns-in-LinkEvents-clause-bound c =
    let s = c.args.index.now in
    let es = c.members-events.result.now in
    omega (
      arith,
      c.unlinked_times.ensures.exact,
      counted (λ t. some_run s.meets es t && not (all_run s.meets es t))
          (length s.parts.times),
      c.facts.ensures.made.limits.times,
    )
