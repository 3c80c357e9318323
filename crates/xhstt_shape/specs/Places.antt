-- Archives that are equal but for the places of their references and names.
use Rattle.std.specs.Prelude.{◌≡◌, List, map}
use Rattle.std.specs.Option.{option_map}
use Rattle.xhstt_shape.specs.declared.constraints.RawApplies.{RawApplies}
use Rattle.xhstt_shape.specs.declared.constraints.RawApplies.TheVariants as applied
use Rattle.xhstt_shape.specs.declared.constraints.RawConstraint.{RawConstraint}
use Rattle.xhstt_shape.specs.declared.constraints.RawPair.{RawPair}
use Rattle.xhstt_shape.specs.declared.constraints.RawRule.{RawRule}
use Rattle.xhstt_shape.specs.declared.constraints.RawRule.TheVariants as ruled
use Rattle.xhstt_shape.specs.declared.constraints.RawSpread.{RawSpread}
use Rattle.xhstt_shape.specs.declared.records.Archive.{Archive}
use Rattle.xhstt_shape.specs.declared.records.EventGroup.{EventGroup}
use Rattle.xhstt_shape.specs.declared.records.Name.{Name}
use Rattle.xhstt_shape.specs.declared.records.RawEntry.{RawEntry}
use Rattle.xhstt_shape.specs.declared.records.RawEvent.{RawEvent}
use Rattle.xhstt_shape.specs.declared.records.RawEventResource.{RawEventResource}
use Rattle.xhstt_shape.specs.declared.records.RawGiven.{RawGiven}
use Rattle.xhstt_shape.specs.declared.records.RawInstance.{RawInstance}
use Rattle.xhstt_shape.specs.declared.records.RawResource.{RawResource}
use Rattle.xhstt_shape.specs.declared.records.RawSolution.{RawSolution}
use Rattle.xhstt_shape.specs.declared.records.Ref.{Ref}
use Rattle.xhstt_shape.specs.declared.records.ResourceGroup.{ResourceGroup}
use Rattle.xhstt_shape.specs.declared.records.ResourceType.{ResourceType}
use Rattle.xhstt_shape.specs.declared.records.SolutionGroup.{SolutionGroup}
use Rattle.xhstt_shape.specs.declared.records.Time.{Time}
use Rattle.xhstt_shape.specs.declared.records.TimeGroup.{TimeGroup}

-- a reference or a name, at the place 0
abbrev pub reference : Ref → Ref
reference r = record r { at = 0 }

abbrev pub name : Name → Name
name n = record n { at = 0 }

-- each other part, with all its places 0
abbrev pub references : List Ref → List Ref
references rs = map reference rs

abbrev pub time_group : TimeGroup → TimeGroup
time_group g = record g { id = name g.id }

abbrev pub time : Time → Time
time t = record t {
  id = name t.id;
  week = option_map reference t.week;
  day = option_map reference t.day;
  time_groups = references t.time_groups;
}

abbrev pub resource_type : ResourceType → ResourceType
resource_type t = record t { id = name t.id }

abbrev pub resource_group : ResourceGroup → ResourceGroup
resource_group g = record g { id = name g.id; resource_type = reference g.resource_type }

abbrev pub resource : RawResource → RawResource
resource r = record r {
  id = name r.id;
  resource_type = reference r.resource_type;
  resource_groups = references r.resource_groups;
}

abbrev pub event_group : EventGroup → EventGroup
event_group g = record g { id = name g.id }

abbrev pub event_resource : RawEventResource → RawEventResource
event_resource r = record r {
  reference = option_map reference r.reference;
  role = option_map name r.role;
  resource_type = option_map reference r.resource_type;
}

abbrev pub event : RawEvent → RawEvent
event e = record e {
  id = name e.id;
  course = option_map reference e.course;
  time = option_map reference e.time;
  resources = map event_resource e.resources;
  resource_groups = references e.resource_groups;
  event_groups = references e.event_groups;
}

abbrev pub pair : RawPair → RawPair
pair p = record p { first = reference p.first; second = reference p.second }

abbrev pub spread : RawSpread → RawSpread
spread s = record s { reference = reference s.reference }

abbrev pub applies : RawApplies → RawApplies
applies (applied.Events groups events) = applied.Events (references groups) (references events)
applies (applied.Groups groups) = applied.Groups (references groups)
applies (applied.Pairs pairs) = applied.Pairs (map pair pairs)
applies (applied.Resources groups resources) = applied.Resources (references groups) (references resources)

abbrev pub rule : RawRule → RawRule
rule ruled.AssignTime = ruled.AssignTime
rule (ruled.AssignResource role) = ruled.AssignResource (name role)
rule (ruled.SplitEvents min_duration max_duration min_amount max_amount) =
    ruled.SplitEvents min_duration max_duration min_amount max_amount
rule (ruled.DistributeSplitEvents duration min max) = ruled.DistributeSplitEvents duration min max
rule (ruled.PreferTimes groups times duration) = ruled.PreferTimes (references groups) (references times) duration
rule (ruled.PreferResources groups resources role) =
    ruled.PreferResources (references groups) (references resources) (name role)
rule (ruled.AvoidSplitAssignments role) = ruled.AvoidSplitAssignments (name role)
rule (ruled.SpreadEvents groups) = ruled.SpreadEvents (map spread groups)
rule ruled.LinkEvents = ruled.LinkEvents
rule ruled.OrderEvents = ruled.OrderEvents
rule ruled.AvoidClashes = ruled.AvoidClashes
rule (ruled.AvoidUnavailableTimes groups times) = ruled.AvoidUnavailableTimes (references groups) (references times)
rule (ruled.LimitIdleTimes groups min max) = ruled.LimitIdleTimes (references groups) min max
rule (ruled.ClusterBusyTimes groups min max) = ruled.ClusterBusyTimes (references groups) min max
rule (ruled.LimitBusyTimes groups min max) = ruled.LimitBusyTimes (references groups) min max
rule (ruled.LimitWorkload min max) = ruled.LimitWorkload min max

abbrev pub constraint : RawConstraint → RawConstraint
constraint c = record c { id = name c.id; applies = applies c.applies; rule = rule c.rule }

abbrev pub instance : RawInstance → RawInstance
instance i = record i {
  id = name i.id;
  time_groups = map time_group i.time_groups;
  times = map time i.times;
  resource_types = map resource_type i.resource_types;
  resource_groups = map resource_group i.resource_groups;
  resources = map resource i.resources;
  event_groups = map event_group i.event_groups;
  events = map event i.events;
  constraints = map constraint i.constraints;
}

abbrev pub given : RawGiven → RawGiven
given g = record { reference = reference g.reference; role = option_map name g.role }

abbrev pub entry : RawEntry → RawEntry
entry e = record e {
  reference = reference e.reference;
  time = option_map reference e.time;
  resources = map given e.resources;
}

abbrev pub solution : RawSolution → RawSolution
solution s = record s { reference = reference s.reference; events = map entry s.events }

abbrev pub solution_group : SolutionGroup → SolutionGroup
solution_group g = record g { id = name g.id; solutions = map solution g.solutions }

-- an archive with all its places 0
unfoldable pub unplaced : Archive → Archive
unplaced a = record a {
  id = option_map name a.id;
  instances = map instance a.instances;
  solution_groups = map solution_group a.solution_groups;
}

-- two archives are equal but for their places
abbrev pub IsSame : Archive → Archive → Type 0
IsSame a b = unplaced a ≡ unplaced b
