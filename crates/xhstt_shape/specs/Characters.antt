-- Archives that can be spelled: each character of each of their texts is one that a text of the
-- grammar may have.
use Rattle.std.specs.Prelude.{ℕ, IfSome, List, All}
use Rattle.xhstt_text.specs.Bytes.{AllAre}
use Rattle.xhstt_text.specs.Units.{is_character}
use Rattle.xhstt_shape.specs.declared.constraints.RawApplies.{RawApplies}
use Rattle.xhstt_shape.specs.declared.constraints.RawApplies.TheVariants as applied
use Rattle.xhstt_shape.specs.declared.constraints.RawConstraint.{RawConstraint}
use Rattle.xhstt_shape.specs.declared.constraints.RawPair.{RawPair}
use Rattle.xhstt_shape.specs.declared.constraints.RawRule.{RawRule}
use Rattle.xhstt_shape.specs.declared.constraints.RawRule.TheVariants as ruled
use Rattle.xhstt_shape.specs.declared.constraints.RawSpread.{RawSpread}
use Rattle.xhstt_shape.specs.declared.records.Archive.{Archive}
use Rattle.xhstt_shape.specs.declared.records.EventGroup.{EventGroup}
use Rattle.xhstt_shape.specs.declared.records.MetaData.{MetaData}
use Rattle.xhstt_shape.specs.declared.records.Name.{Name}
use Rattle.xhstt_shape.specs.declared.records.RawEntry.{RawEntry}
use Rattle.xhstt_shape.specs.declared.records.RawEvent.{RawEvent}
use Rattle.xhstt_shape.specs.declared.records.RawEventResource.{RawEventResource}
use Rattle.xhstt_shape.specs.declared.records.RawGiven.{RawGiven}
use Rattle.xhstt_shape.specs.declared.records.RawInstance.{RawInstance}
use Rattle.xhstt_shape.specs.declared.records.RawResource.{RawResource}
use Rattle.xhstt_shape.specs.declared.records.RawSolution.{RawSolution}
use Rattle.xhstt_shape.specs.declared.records.Ref.{Ref}
use Rattle.xhstt_shape.specs.declared.records.ResourceGroup.{ResourceGroup}
use Rattle.xhstt_shape.specs.declared.records.ResourceType.{ResourceType}
use Rattle.xhstt_shape.specs.declared.records.SolutionGroup.{SolutionGroup}
use Rattle.xhstt_shape.specs.declared.records.Time.{Time}
use Rattle.xhstt_shape.specs.declared.records.TimeGroup.{TimeGroup}

-- a text
abbrev pub IsSpellable : List ℕ → Type 0
IsSpellable text = AllAre is_character text

abbrev pub IsSpellableName : Name → Type 0
IsSpellableName n = IsSpellable n.text

abbrev pub IsSpellableRef : Ref → Type 0
IsSpellableRef r = IsSpellable r.id

abbrev pub AreSpellableRefs : List Ref → Type 0
AreSpellableRefs rs = All IsSpellableRef rs

-- the texts of each record
pub record IsSpellableMetaData (m : MetaData) : Type 0 where
  pub name : IsSpellable m.name
  pub contributor : IfSome m.contributor IsSpellable
  pub date : IfSome m.date IsSpellable
  pub country : IfSome m.country IsSpellable
  pub description : IfSome m.description IsSpellable
  pub publication : IfSome m.publication IsSpellable
  pub remarks : IfSome m.remarks IsSpellable

abbrev pub IsSpellableTimeGroup : TimeGroup → Type 0
IsSpellableTimeGroup g = IsSpellableName g.id × IsSpellable g.name

pub record IsSpellableTime (t : Time) : Type 0 where
  pub id : IsSpellableName t.id
  pub name : IsSpellable t.name
  pub week : IfSome t.week IsSpellableRef
  pub day : IfSome t.day IsSpellableRef
  pub time_groups : AreSpellableRefs t.time_groups

abbrev pub IsSpellableResourceType : ResourceType → Type 0
IsSpellableResourceType t = IsSpellableName t.id × IsSpellable t.name

abbrev pub IsSpellableResourceGroup : ResourceGroup → Type 0
IsSpellableResourceGroup g = IsSpellableName g.id × IsSpellable g.name × IsSpellableRef g.resource_type

pub record IsSpellableResource (r : RawResource) : Type 0 where
  pub id : IsSpellableName r.id
  pub name : IsSpellable r.name
  pub resource_type : IsSpellableRef r.resource_type
  pub resource_groups : AreSpellableRefs r.resource_groups

abbrev pub IsSpellableEventGroup : EventGroup → Type 0
IsSpellableEventGroup g = IsSpellableName g.id × IsSpellable g.name

pub record IsSpellableEventResource (r : RawEventResource) : Type 0 where
  pub reference : IfSome r.reference IsSpellableRef
  pub role : IfSome r.role IsSpellableName
  pub resource_type : IfSome r.resource_type IsSpellableRef

pub record IsSpellableEvent (e : RawEvent) : Type 0 where
  pub id : IsSpellableName e.id
  pub color : IfSome e.color IsSpellable
  pub name : IsSpellable e.name
  pub course : IfSome e.course IsSpellableRef
  pub time : IfSome e.time IsSpellableRef
  pub resources : All IsSpellableEventResource e.resources
  pub resource_groups : AreSpellableRefs e.resource_groups
  pub event_groups : AreSpellableRefs e.event_groups

abbrev pub IsSpellablePair : RawPair → Type 0
IsSpellablePair p = IsSpellableRef p.first × IsSpellableRef p.second

abbrev pub IsSpellableSpread : RawSpread → Type 0
IsSpellableSpread s = IsSpellableRef s.reference

abbrev pub IsSpellableApplies : RawApplies → Type 0
IsSpellableApplies (applied.Events groups events) = AreSpellableRefs groups × AreSpellableRefs events
IsSpellableApplies (applied.Groups groups) = AreSpellableRefs groups
IsSpellableApplies (applied.Pairs pairs) = All IsSpellablePair pairs
IsSpellableApplies (applied.Resources groups resources) = AreSpellableRefs groups × AreSpellableRefs resources

abbrev pub IsSpellableRule : RawRule → Type 0
IsSpellableRule ruled.AssignTime = Unit {0}
IsSpellableRule (ruled.AssignResource role) = IsSpellableName role
IsSpellableRule (ruled.SplitEvents min_duration max_duration min_amount max_amount) = Unit {0}
IsSpellableRule (ruled.DistributeSplitEvents duration min max) = Unit {0}
IsSpellableRule (ruled.PreferTimes groups times duration) = AreSpellableRefs groups × AreSpellableRefs times
IsSpellableRule (ruled.PreferResources groups resources role) =
    AreSpellableRefs groups × AreSpellableRefs resources × IsSpellableName role
IsSpellableRule (ruled.AvoidSplitAssignments role) = IsSpellableName role
IsSpellableRule (ruled.SpreadEvents groups) = All IsSpellableSpread groups
IsSpellableRule ruled.LinkEvents = Unit {0}
IsSpellableRule ruled.OrderEvents = Unit {0}
IsSpellableRule ruled.AvoidClashes = Unit {0}
IsSpellableRule (ruled.AvoidUnavailableTimes groups times) = AreSpellableRefs groups × AreSpellableRefs times
IsSpellableRule (ruled.LimitIdleTimes groups min max) = AreSpellableRefs groups
IsSpellableRule (ruled.ClusterBusyTimes groups min max) = AreSpellableRefs groups
IsSpellableRule (ruled.LimitBusyTimes groups min max) = AreSpellableRefs groups
IsSpellableRule (ruled.LimitWorkload min max) = Unit {0}

pub record IsSpellableConstraint (c : RawConstraint) : Type 0 where
  pub id : IsSpellableName c.id
  pub name : IsSpellable c.name
  pub applies : IsSpellableApplies c.applies
  pub rule : IsSpellableRule c.rule

pub record IsSpellableInstance (i : RawInstance) : Type 0 where
  pub id : IsSpellableName i.id
  pub meta_data : IfSome i.meta_data IsSpellableMetaData
  pub time_groups : All IsSpellableTimeGroup i.time_groups
  pub times : All IsSpellableTime i.times
  pub resource_types : All IsSpellableResourceType i.resource_types
  pub resource_groups : All IsSpellableResourceGroup i.resource_groups
  pub resources : All IsSpellableResource i.resources
  pub event_groups : All IsSpellableEventGroup i.event_groups
  pub events : All IsSpellableEvent i.events
  pub constraints : All IsSpellableConstraint i.constraints

abbrev pub IsSpellableGiven : RawGiven → Type 0
IsSpellableGiven g = IsSpellableRef g.reference × IfSome g.role IsSpellableName

pub record IsSpellableEntry (e : RawEntry) : Type 0 where
  pub reference : IsSpellableRef e.reference
  pub time : IfSome e.time IsSpellableRef
  pub resources : All IsSpellableGiven e.resources

pub record IsSpellableSolution (s : RawSolution) : Type 0 where
  pub reference : IsSpellableRef s.reference
  pub description : IfSome s.description IsSpellable
  pub running_time : IfSome s.running_time IsSpellable
  pub events : All IsSpellableEntry s.events

pub record IsSpellableSolutionGroup (g : SolutionGroup) : Type 0 where
  pub id : IsSpellableName g.id
  pub meta_data : IfSome g.meta_data IsSpellableMetaData
  pub solutions : All IsSpellableSolution g.solutions

pub record IsSpellableArchive (a : Archive) : Type 0 where
  pub id : IfSome a.id IsSpellableName
  pub meta_data : IfSome a.meta_data IsSpellableMetaData
  pub instances : All IsSpellableInstance a.instances
  pub solution_groups : All IsSpellableSolutionGroup a.solution_groups
