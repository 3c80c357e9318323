-- The rule of a constraint, with its references followed.
use Rattle.std.specs.Prelude.{Bool, unwrap_or, List, [], map}
use Rattle.khe_base.specs.Names.{number_of}
use Rattle.khe_base.specs.declared.numbers.EventId.{EventId}
use Rattle.khe_instance.specs.declared.rules.EventPair.{EventPair}
use Rattle.khe_instance.specs.declared.rules.Rule.{Rule}
use Rattle.khe_instance.specs.declared.rules.Rule.TheVariants as rule
use Rattle.khe_instance.specs.declared.rules.Spread.{Spread}
use Rattle.xhstt_references.specs.Ids.{event_ids}
use Rattle.xhstt_resolve.specs.Members.{times_in, listed_times, listed_resources, time_set, resource_set}
use Rattle.xhstt_shape.specs.declared.constraints.RawApplies.{RawApplies}
use Rattle.xhstt_shape.specs.declared.constraints.RawApplies.TheVariants as applied
use Rattle.xhstt_shape.specs.declared.constraints.RawPair.{RawPair}
use Rattle.xhstt_shape.specs.declared.constraints.RawRule.{RawRule}
use Rattle.xhstt_shape.specs.declared.constraints.RawRule.TheVariants as ruled
use Rattle.xhstt_shape.specs.declared.constraints.RawSpread.{RawSpread}
use Rattle.xhstt_shape.specs.declared.records.RawInstance.{RawInstance}
use Rattle.xhstt_shape.specs.declared.records.Ref.{Ref}

-- the set of the times of a group
abbrev pub group_set : RawInstance → Ref → List Bool
group_set i group = time_set i (times_in i group.id)

-- the sets of the times of groups, with repeats
abbrev pub group_sets : RawInstance → List Ref → List (List Bool)
group_sets i groups = map (group_set i) groups

abbrev pub spread_of : RawInstance → RawSpread → Spread
spread_of i s = record { group = group_set i s.reference; min = s.min; max = s.max }

-- the event that a reference names, and the first one where it names none
abbrev pub event_named : RawInstance → Ref → EventId
event_named i r = record { 0 = unwrap_or (number_of r.id (event_ids i)) 0 }

abbrev pub pair_of : RawInstance → RawPair → EventPair
pair_of i p = record { first = event_named i p.first; second = event_named i p.second; min = p.min; max = p.max }

-- the pairs that a constraint applies to
abbrev pub pairs_of : RawInstance → RawApplies → List EventPair
pairs_of i (applied.Events groups events) = []
pairs_of i (applied.Groups groups) = []
pairs_of i (applied.Pairs pairs) = map (pair_of i) pairs
pairs_of i (applied.Resources groups resources) = []

abbrev pub rule_of : RawInstance → RawApplies → RawRule → Rule
rule_of i applies ruled.AssignTime = rule.AssignTime
rule_of i applies (ruled.AssignResource role) = rule.AssignResource role.text
rule_of i applies (ruled.SplitEvents min_duration max_duration min_amount max_amount) =
    rule.SplitEvents min_duration max_duration min_amount max_amount
rule_of i applies (ruled.DistributeSplitEvents duration least greatest) =
    rule.DistributeSplitEvents duration least greatest
rule_of i applies (ruled.PreferTimes groups times duration) =
    rule.PreferTimes (time_set i (listed_times i groups times)) duration
rule_of i applies (ruled.PreferResources groups resources role) =
    rule.PreferResources (resource_set i (listed_resources i groups resources)) role.text
rule_of i applies (ruled.AvoidSplitAssignments role) = rule.AvoidSplitAssignments role.text
rule_of i applies (ruled.SpreadEvents groups) = rule.SpreadEvents (map (spread_of i) groups)
rule_of i applies ruled.LinkEvents = rule.LinkEvents
rule_of i applies ruled.OrderEvents = rule.OrderEvents (pairs_of i applies)
rule_of i applies ruled.AvoidClashes = rule.AvoidClashes
rule_of i applies (ruled.AvoidUnavailableTimes groups times) =
    rule.AvoidUnavailableTimes (time_set i (listed_times i groups times))
rule_of i applies (ruled.LimitIdleTimes groups least greatest) =
    rule.LimitIdleTimes (group_sets i groups) least greatest
rule_of i applies (ruled.ClusterBusyTimes groups least greatest) =
    rule.ClusterBusyTimes (group_sets i groups) least greatest
rule_of i applies (ruled.LimitBusyTimes groups least greatest) =
    rule.LimitBusyTimes (group_sets i groups) least greatest
rule_of i applies (ruled.LimitWorkload least greatest) = rule.LimitWorkload least greatest
