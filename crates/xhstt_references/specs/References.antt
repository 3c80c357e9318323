-- The places at which an archive's names and references fail: Ids and roles that came before, and
-- references that name nothing.
use Rattle.std.specs.Prelude.{ℕ, ◌+◌, not, nat_lt, if◌then◌else◌, Option, Some, None, List, [], ◌∷◌, ◌++◌, map, length}
use Rattle.std.specs.Prelude.{slice_get}
use Rattle.std.specs.List.{filter, filter_map, flat_map}
use Rattle.std.specs.Option.{option_and_then, option_map_or}
use Rattle.khe_base.specs.Names.{is_among_names, number_of}
use Rattle.xhstt_references.specs.Directories.{directory_of}
use Rattle.xhstt_references.specs.Ids.{instance_ids}
use Rattle.xhstt_references.specs.declared.directories.Directory.{Directory}
use Rattle.xhstt_shape.specs.declared.constraints.RawApplies.{RawApplies}
use Rattle.xhstt_shape.specs.declared.constraints.RawApplies.TheVariants as applied
use Rattle.xhstt_shape.specs.declared.constraints.RawConstraint.{RawConstraint}
use Rattle.xhstt_shape.specs.declared.constraints.RawPair.{RawPair}
use Rattle.xhstt_shape.specs.declared.constraints.RawRule.{RawRule}
use Rattle.xhstt_shape.specs.declared.constraints.RawRule.TheVariants as ruled
use Rattle.xhstt_shape.specs.declared.constraints.RawSpread.{RawSpread}
use Rattle.xhstt_shape.specs.declared.records.Archive.{Archive}
use Rattle.xhstt_shape.specs.declared.records.Name.{Name}
use Rattle.xhstt_shape.specs.declared.records.RawEntry.{RawEntry}
use Rattle.xhstt_shape.specs.declared.records.RawEvent.{RawEvent}
use Rattle.xhstt_shape.specs.declared.records.RawEventResource.{RawEventResource}
use Rattle.xhstt_shape.specs.declared.records.RawInstance.{RawInstance}
use Rattle.xhstt_shape.specs.declared.records.RawResource.{RawResource}
use Rattle.xhstt_shape.specs.declared.records.RawSolution.{RawSolution}
use Rattle.xhstt_shape.specs.declared.records.RawGiven.{RawGiven}
use Rattle.xhstt_shape.specs.declared.records.Ref.{Ref}
use Rattle.xhstt_shape.specs.declared.records.ResourceGroup.{ResourceGroup}
use Rattle.xhstt_shape.specs.declared.records.Time.{Time}

-- the places of the names that came before, among these or earlier in the list
abbrev pub repeated_after : List (List ℕ) → List Name → List ℕ
repeated_after seen [] = []
repeated_after seen (n ∷ ns) =
    (if is_among_names n.text seen then n.at ∷ [] else []) ++ repeated_after (seen ++ n.text ∷ []) ns

abbrev pub repeated : List Name → List ℕ
repeated names = repeated_after [] names

-- Ids are distinct within each sort of an instance's parts
abbrev pub repeated_ids : RawInstance → List ℕ
repeated_ids i =
    repeated (map (λ g. g.id) i.time_groups)
    ++ (repeated (map (λ t. t.id) i.times)
    ++ (repeated (map (λ t. t.id) i.resource_types)
    ++ (repeated (map (λ g. g.id) i.resource_groups)
    ++ (repeated (map (λ r. r.id) i.resources)
    ++ (repeated (map (λ g. g.id) i.event_groups)
    ++ (repeated (map (λ e. e.id) i.events)
    ++ repeated (map (λ c. c.id) i.constraints)))))))

-- roles are distinct within each event
abbrev pub roles_of : RawEvent → List Name
roles_of e = filter_map (λ r. r.role) e.resources

abbrev pub repeated_roles : RawInstance → List ℕ
repeated_roles i = flat_map (λ e. repeated (roles_of e)) i.events

-- the places of the references that are not among the Ids
abbrev pub unknown : List (List ℕ) → List Ref → List ℕ
unknown ids refs = map (λ r. r.at) (filter (λ r. not (is_among_names r.id ids)) refs)

-- a reference that may be missing
abbrev pub unknown_one : List (List ℕ) → Option Ref → List ℕ
unknown_one ids None = []
unknown_one ids (Some r) = unknown ids (r ∷ [])

abbrev pub unknown_in_time : Directory → Time → List ℕ
unknown_in_time d t = unknown_one d.weeks t.week ++ (unknown_one d.days t.day ++ unknown d.time_groups t.time_groups)

abbrev pub unknown_in_group : Directory → ResourceGroup → List ℕ
unknown_in_group d g = unknown d.resource_types (g.resource_type ∷ [])

abbrev pub unknown_in_resource : Directory → RawResource → List ℕ
unknown_in_resource d r = unknown d.resource_types (r.resource_type ∷ []) ++ unknown d.resource_groups r.resource_groups

abbrev pub unknown_in_place : Directory → RawEventResource → List ℕ
unknown_in_place d p = unknown_one d.resources p.reference ++ unknown_one d.resource_types p.resource_type

abbrev pub unknown_in_event : Directory → RawEvent → List ℕ
unknown_in_event d e =
    unknown_one d.courses e.course
    ++ (unknown_one d.times e.time
    ++ (flat_map (unknown_in_place d) e.resources
    ++ (unknown d.resource_groups e.resource_groups
    ++ unknown d.event_groups e.event_groups)))

abbrev pub unknown_in_pair : Directory → RawPair → List ℕ
unknown_in_pair d p = unknown d.events (p.first ∷ []) ++ unknown d.events (p.second ∷ [])

abbrev pub unknown_in_applies : Directory → RawApplies → List ℕ
unknown_in_applies d (applied.Events groups events) = unknown d.event_groups groups ++ unknown d.events events
unknown_in_applies d (applied.Groups groups) = unknown d.event_groups groups
unknown_in_applies d (applied.Pairs pairs) = flat_map (unknown_in_pair d) pairs
unknown_in_applies d (applied.Resources groups resources) =
    unknown d.resource_groups groups ++ unknown d.resources resources

abbrev pub unknown_in_spread : Directory → RawSpread → List ℕ
unknown_in_spread d s = unknown d.time_groups (s.reference ∷ [])

abbrev pub unknown_in_rule : Directory → RawRule → List ℕ
unknown_in_rule d ruled.AssignTime = []
unknown_in_rule d (ruled.AssignResource role) = []
unknown_in_rule d (ruled.SplitEvents min_duration max_duration min_amount max_amount) = []
unknown_in_rule d (ruled.DistributeSplitEvents duration least greatest) = []
unknown_in_rule d (ruled.PreferTimes groups times duration) = unknown d.time_groups groups ++ unknown d.times times
unknown_in_rule d (ruled.PreferResources groups resources role) =
    unknown d.resource_groups groups ++ unknown d.resources resources
unknown_in_rule d (ruled.AvoidSplitAssignments role) = []
unknown_in_rule d (ruled.SpreadEvents groups) = flat_map (unknown_in_spread d) groups
unknown_in_rule d ruled.LinkEvents = []
unknown_in_rule d ruled.OrderEvents = []
unknown_in_rule d ruled.AvoidClashes = []
unknown_in_rule d (ruled.AvoidUnavailableTimes groups times) = unknown d.time_groups groups ++ unknown d.times times
unknown_in_rule d (ruled.LimitIdleTimes groups least greatest) = unknown d.time_groups groups
unknown_in_rule d (ruled.ClusterBusyTimes groups least greatest) = unknown d.time_groups groups
unknown_in_rule d (ruled.LimitBusyTimes groups least greatest) = unknown d.time_groups groups
unknown_in_rule d (ruled.LimitWorkload least greatest) = []

abbrev pub unknown_in_constraint : Directory → RawConstraint → List ℕ
unknown_in_constraint d c = unknown_in_applies d c.applies ++ unknown_in_rule d c.rule

-- the references of an instance that name no part of a directory; weeks, days and courses are
-- named as such
abbrev pub unknown_in : Directory → RawInstance → List ℕ
unknown_in d i =
    flat_map (unknown_in_time d) i.times
    ++ (flat_map (unknown_in_group d) i.resource_groups
    ++ (flat_map (unknown_in_resource d) i.resources
    ++ (flat_map (unknown_in_event d) i.events
    ++ flat_map (unknown_in_constraint d) i.constraints)))

-- all references of an instance name parts of it
abbrev pub unknown_references : RawInstance → List ℕ
unknown_references i = unknown_in (directory_of i) i

-- the place of an event's preassigned time where the event would go on beyond the last time
abbrev pub off_end_from : Directory → ℕ → Ref → List ℕ
off_end_from d duration r =
    option_map_or (λ t. if nat_lt (length d.times) (t + duration) then r.at ∷ [] else []) (number_of r.id d.times) []

abbrev pub off_end : Directory → RawEvent → List ℕ
off_end d e = option_map_or (off_end_from d e.duration) e.time []

abbrev pub events_off_end : RawInstance → List ℕ
events_off_end i = flat_map (off_end (directory_of i)) i.events

-- the references of a solution to its instance's parts
abbrev pub unknown_in_given : Directory → RawGiven → List ℕ
unknown_in_given d g = unknown d.resources (g.reference ∷ [])

abbrev pub unknown_in_entry : Directory → RawEntry → List ℕ
unknown_in_entry d e =
    unknown d.events (e.reference ∷ [])
    ++ (unknown_one d.times e.time
    ++ flat_map (unknown_in_given d) e.resources)

-- a solution names an instance by its Id, and parts in that instance's directory
abbrev pub unknown_in_solution : List (List ℕ) → List Directory → RawSolution → List ℕ
unknown_in_solution ids directories s =
    unknown ids (s.reference ∷ [])
    ++ option_map_or (λ d. flat_map (unknown_in_entry d) s.events)
    (option_and_then (λ k. slice_get directories k) (number_of s.reference.id ids)) []

-- all solutions of an archive, group by group
abbrev pub solutions_of : Archive → List RawSolution
solutions_of a = flat_map (λ g. g.solutions) a.solution_groups

abbrev pub unknown_in_solutions : Archive → List ℕ
unknown_in_solutions a = flat_map (unknown_in_solution (instance_ids a) (map directory_of a.instances)) (solutions_of a)
