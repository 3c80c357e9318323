-- The constraints of a job, one of each kind.
use Rattle.std.specs.Prelude.{ℕ, ◌+◌, ◌*◌, ◌/◌, Bool, true, false, Some, List, [], ◌∷◌, ◌++◌, codes, map}
use Rattle.khe_base.specs.declared.costs.CostFn.{CostFn}
use Rattle.khe_base.specs.declared.costs.CostFn.TheVariants.{Linear, Quadratic, Step}
use Rattle.xhstt_shape.specs.declared.constraints.RawApplies.{RawApplies}
use Rattle.xhstt_shape.specs.declared.constraints.RawApplies.TheVariants as applied
use Rattle.xhstt_shape.specs.declared.constraints.RawConstraint.{RawConstraint}
use Rattle.xhstt_shape.specs.declared.constraints.RawPair.{RawPair}
use Rattle.xhstt_shape.specs.declared.constraints.RawRule.{RawRule}
use Rattle.xhstt_shape.specs.declared.constraints.RawRule.TheVariants as ruled
use Rattle.xhstt_shape.specs.declared.constraints.RawSpread.{RawSpread}
use Rattle.xhstt_shape.specs.declared.records.Ref.{Ref}
use Rattle.archive_generator.specs.Events.{halves}
use Rattle.archive_generator.specs.Names.{name, to, numbered, below, to_each}
use Rattle.archive_generator.specs.Times.{days}

abbrev pub constraint : ℕ → Bool → ℕ → CostFn → RawApplies → RawRule → RawConstraint
constraint number required weight cost applies rule = record {
  id = name (numbered (codes "x") number);
  name = [];
  required = required;
  weight = weight;
  cost = cost;
  applies = applies;
  rule = rule;
}

-- what the constraints apply to: all events, all groups of two events, or groups of resources
abbrev pub all_events : RawApplies
all_events = applied.Events (to (codes "all") ∷ []) []

unfoldable pub all_halves : ℕ → RawApplies
all_halves size = applied.Groups (to_each (codes "h") (halves size))

abbrev pub first_half : RawApplies
first_half = applied.Groups (to (codes "h0") ∷ [])

abbrev pub group : List ℕ → RawApplies
group id = applied.Resources (to id ∷ []) []

abbrev pub all_groups : List Ref
all_groups = to (codes "gp") ∷ (to (codes "gc") ∷ (to (codes "gq") ∷ []))

abbrev pub all_resources : RawApplies
all_resources = applied.Resources all_groups []

-- each tenth group of two events is a pair in order, if it has two
abbrev pub pair : ℕ → RawPair
pair k = record {
  first = to (numbered (codes "e") (20 * k));
  second = to (numbered (codes "e") (20 * k + 1));
  min = 0;
  max = 2147483647;
}

abbrev pub pair_count : ℕ → ℕ
pair_count size = (size + 18) / 20

unfoldable pub pairs : ℕ → RawApplies
pairs size = applied.Pairs (map pair (below (pair_count size)))

abbrev pub spread : ℕ → RawSpread
spread n = record { reference = to (numbered (codes "d") n); min = 0; max = 1 }

unfoldable pub spreads : List RawSpread
spreads = map spread (below 5)

-- events have times
unfoldable pub assign_time : RawConstraint
assign_time = constraint 0 true 1 Linear all_events ruled.AssignTime

-- events have teachers
unfoldable pub assign_resource : RawConstraint
assign_resource = constraint 1 true 1 Linear all_events (ruled.AssignResource (name (codes "T")))

-- events have one or two parts, of durations 1 and 2
unfoldable pub split_events : RawConstraint
split_events = constraint 2 false 1 Linear all_events (ruled.SplitEvents 1 2 1 2)

-- events have at most one part of duration 2
unfoldable pub distribute : RawConstraint
distribute = constraint 3 false 1 Step all_events (ruled.DistributeSplitEvents 2 0 1)

-- parts of duration 1 are at the first times of the days
unfoldable pub prefer_times : RawConstraint
prefer_times = constraint 4 false 1 Linear all_events (ruled.PreferTimes (to (codes "early") ∷ []) [] (Some 1))

-- events are in the first room
unfoldable pub prefer_resources : RawConstraint
prefer_resources = constraint 5 false 1 Linear all_events
    (ruled.PreferResources [] (to (codes "q0") ∷ []) (name (codes "R")))

-- the events of a group have one teacher
unfoldable pub avoid_split : ℕ → RawConstraint
avoid_split size = constraint 6 false 3 Linear (all_halves size) (ruled.AvoidSplitAssignments (name (codes "T")))

-- the events of a group are spread over the days
unfoldable pub spread_events : ℕ → RawConstraint
spread_events size = constraint 7 false 2 Linear (all_halves size) (ruled.SpreadEvents spreads)

-- the events of the first group run together
unfoldable pub link_events : RawConstraint
link_events = constraint 8 false 1 Linear first_half ruled.LinkEvents

-- the events of each pair follow each other
unfoldable pub order_events : ℕ → RawConstraint
order_events size = constraint 9 false 1 Linear (pairs size) ruled.OrderEvents

-- resources are in one place at a time
unfoldable pub avoid_clashes : RawConstraint
avoid_clashes = constraint 10 true 1 Linear all_resources ruled.AvoidClashes

-- teachers are free at the last time
unfoldable pub avoid_unavailable : RawConstraint
avoid_unavailable = constraint 11 true 1 Linear (group (codes "gp"))
    (ruled.AvoidUnavailableTimes [] (to (codes "t39") ∷ []))

-- teachers have at most two idle times a day
unfoldable pub limit_idle : RawConstraint
limit_idle = constraint 12 false 1 Quadratic (group (codes "gp")) (ruled.LimitIdleTimes days 0 2)

-- teachers are busy at most four days
unfoldable pub cluster_busy : RawConstraint
cluster_busy = constraint 13 false 1 Linear (group (codes "gp")) (ruled.ClusterBusyTimes days 0 4)

-- classes are busy at two to six times a day
unfoldable pub limit_busy : RawConstraint
limit_busy = constraint 14 false 1 Linear (group (codes "gc")) (ruled.LimitBusyTimes days 2 6)

-- teachers have a workload of at most twelve
unfoldable pub limit_workload : RawConstraint
limit_workload = constraint 15 false 1 Linear (group (codes "gp")) (ruled.LimitWorkload 0 12)

-- the constraints of events, of their parts, and of groups and pairs of events
unfoldable pub event_constraints : List RawConstraint
event_constraints = assign_time ∷ (assign_resource ∷ (split_events ∷ []))

unfoldable pub part_constraints : List RawConstraint
part_constraints = distribute ∷ (prefer_times ∷ (prefer_resources ∷ []))

unfoldable pub group_constraints : ℕ → List RawConstraint
group_constraints size =
    avoid_split size ∷ (spread_events size ∷ (link_events ∷ (order_events size ∷ [])))

-- those of resources, and of how much they are busy
unfoldable pub resource_constraints : List RawConstraint
resource_constraints = avoid_clashes ∷ (avoid_unavailable ∷ (limit_idle ∷ []))

unfoldable pub load_constraints : List RawConstraint
load_constraints = cluster_busy ∷ (limit_busy ∷ (limit_workload ∷ []))

-- all of them, in order
unfoldable pub constraints : ℕ → List RawConstraint
constraints size =
    (((event_constraints ++ part_constraints) ++ group_constraints size) ++ resource_constraints) ++ load_constraints
