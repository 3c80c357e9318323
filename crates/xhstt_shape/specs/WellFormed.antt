-- An archive is in form where its numbers are in their ranges, durations are at least 1, and roles are neither empty
-- nor white at their ends. It is well formed where besides each of its texts can be written.
use Rattle.std.specs.Prelude.{ℕ, ◌≡◌, ◌≤◌, false, None, IsSome, IfSome, All, encode_utf8_all}
use Rattle.khe_base.specs.declared.limits.TheConstants.{NUMBER, GREATEST_BOUND}
use Rattle.xhstt_shape.specs.declared.constraints.RawApplies.{RawApplies}
use Rattle.xhstt_shape.specs.declared.constraints.RawApplies.TheVariants as applied
use Rattle.xhstt_shape.specs.declared.constraints.RawConstraint.{RawConstraint}
use Rattle.xhstt_shape.specs.declared.constraints.RawPair.{RawPair}
use Rattle.xhstt_shape.specs.declared.constraints.RawRule.{RawRule}
use Rattle.xhstt_shape.specs.declared.constraints.RawRule.TheVariants as ruled
use Rattle.xhstt_shape.specs.declared.constraints.RawSpread.{RawSpread}
use Rattle.xhstt_shape.specs.declared.records.Archive.{Archive}
use Rattle.xhstt_shape.specs.declared.records.Name.{Name}
use Rattle.xhstt_shape.specs.declared.records.RawEntry.{RawEntry}
use Rattle.xhstt_shape.specs.declared.records.RawEvent.{RawEvent}
use Rattle.xhstt_shape.specs.declared.records.RawEventResource.{RawEventResource}
use Rattle.xhstt_shape.specs.declared.records.RawGiven.{RawGiven}
use Rattle.xhstt_shape.specs.declared.records.RawInstance.{RawInstance}
use Rattle.xhstt_shape.specs.declared.records.RawSolution.{RawSolution}
use Rattle.xhstt_shape.specs.declared.records.SolutionGroup.{SolutionGroup}
use Rattle.xhstt_shape.specs.Characters.{IsSpellableArchive}
use Rattle.xhstt_shape.specs.Contents.{is_blank, trimmed}

-- a role is not empty, and has no white at its ends
pub record IsRole (n : Name) : Type 0 where
  pub some : is_blank n.text ≡ false
  pub whole : trimmed (encode_utf8_all n.text) ≡ encode_utf8_all n.text

-- a number, a duration and an upper bound are in their ranges
abbrev pub IsNumber : ℕ → Type 0
IsNumber n = n ≤ NUMBER

abbrev pub IsDuration : ℕ → Type 0
IsDuration n = (1 ≤ n) × (n ≤ NUMBER)

abbrev pub AreBounds : ℕ → ℕ → Type 0
AreBounds min max = (min ≤ NUMBER) × (max ≤ GREATEST_BOUND)

-- an event resource; without a reference it has a role and a type
pub record IsEventResource (r : RawEventResource) : Type 0 where
  pub role : IfSome r.role IsRole
  pub workload : IfSome r.workload IsNumber
  pub closed : r.reference ≡ None → IsSome r.role × IsSome r.resource_type

-- an event
pub record IsEvent (e : RawEvent) : Type 0 where
  pub duration : IsDuration e.duration
  pub workload : IfSome e.workload IsNumber
  pub resources : All IsEventResource e.resources

abbrev pub IsPair : RawPair → Type 0
IsPair p = AreBounds p.min p.max

abbrev pub IsSpread : RawSpread → Type 0
IsSpread s = AreBounds s.min s.max

-- the numbers and the role of a rule
abbrev pub IsRule : RawRule → Type 0
IsRule ruled.AssignTime = Unit {0}
IsRule (ruled.AssignResource role) = IsRole role
IsRule (ruled.SplitEvents min_duration max_duration min_amount max_amount) =
    AreBounds min_duration max_duration × AreBounds min_amount max_amount
IsRule (ruled.DistributeSplitEvents duration min max) = IsDuration duration × AreBounds min max
IsRule (ruled.PreferTimes groups times duration) = IfSome duration IsDuration
IsRule (ruled.PreferResources groups resources role) = IsRole role
IsRule (ruled.AvoidSplitAssignments role) = IsRole role
IsRule (ruled.SpreadEvents groups) = All IsSpread groups
IsRule ruled.LinkEvents = Unit {0}
IsRule ruled.OrderEvents = Unit {0}
IsRule ruled.AvoidClashes = Unit {0}
IsRule (ruled.AvoidUnavailableTimes groups times) = Unit {0}
IsRule (ruled.LimitIdleTimes groups min max) = AreBounds min max
IsRule (ruled.ClusterBusyTimes groups min max) = AreBounds min max
IsRule (ruled.LimitBusyTimes groups min max) = AreBounds min max
IsRule (ruled.LimitWorkload min max) = AreBounds min max

-- what a constraint applies to has one of the four forms
abbrev pub AreEvents : RawApplies → Type 0
AreEvents (applied.Events groups events) = Unit {0}
AreEvents (applied.Groups groups) = ⊥
AreEvents (applied.Pairs pairs) = ⊥
AreEvents (applied.Resources groups resources) = ⊥

abbrev pub AreGroups : RawApplies → Type 0
AreGroups (applied.Events groups events) = ⊥
AreGroups (applied.Groups groups) = Unit {0}
AreGroups (applied.Pairs pairs) = ⊥
AreGroups (applied.Resources groups resources) = ⊥

abbrev pub ArePairs : RawApplies → Type 0
ArePairs (applied.Events groups events) = ⊥
ArePairs (applied.Groups groups) = ⊥
ArePairs (applied.Pairs pairs) = All IsPair pairs
ArePairs (applied.Resources groups resources) = ⊥

abbrev pub AreResources : RawApplies → Type 0
AreResources (applied.Events groups events) = ⊥
AreResources (applied.Groups groups) = ⊥
AreResources (applied.Pairs pairs) = ⊥
AreResources (applied.Resources groups resources) = Unit {0}

-- the form that the kind of a rule asks for
abbrev pub FitsRule : RawRule → RawApplies → Type 0
FitsRule ruled.AssignTime a = AreEvents a
FitsRule (ruled.AssignResource role) a = AreEvents a
FitsRule (ruled.SplitEvents min_duration max_duration min_amount max_amount) a = AreEvents a
FitsRule (ruled.DistributeSplitEvents duration min max) a = AreEvents a
FitsRule (ruled.PreferTimes groups times duration) a = AreEvents a
FitsRule (ruled.PreferResources groups resources role) a = AreEvents a
FitsRule (ruled.AvoidSplitAssignments role) a = AreGroups a
FitsRule (ruled.SpreadEvents groups) a = AreGroups a
FitsRule ruled.LinkEvents a = AreGroups a
FitsRule ruled.OrderEvents a = ArePairs a
FitsRule ruled.AvoidClashes a = AreResources a
FitsRule (ruled.AvoidUnavailableTimes groups times) a = AreResources a
FitsRule (ruled.LimitIdleTimes groups min max) a = AreResources a
FitsRule (ruled.ClusterBusyTimes groups min max) a = AreResources a
FitsRule (ruled.LimitBusyTimes groups min max) a = AreResources a
FitsRule (ruled.LimitWorkload min max) a = AreResources a

-- a constraint
pub record IsConstraint (c : RawConstraint) : Type 0 where
  pub weight : IsNumber c.weight
  pub rule : IsRule c.rule
  pub applies : FitsRule c.rule c.applies

-- an instance
pub record IsInstance (i : RawInstance) : Type 0 where
  pub events : All IsEvent i.events
  pub constraints : All IsConstraint i.constraints

abbrev pub IsGiven : RawGiven → Type 0
IsGiven g = IfSome g.role IsRole

-- an entry of a solution
pub record IsEntry (e : RawEntry) : Type 0 where
  pub duration : IfSome e.duration IsDuration
  pub resources : All IsGiven e.resources

abbrev pub IsSolution : RawSolution → Type 0
IsSolution s = All IsEntry s.events

abbrev pub IsSolutionGroup : SolutionGroup → Type 0
IsSolutionGroup g = All IsSolution g.solutions

-- an archive: numbers are in their ranges, roles are not empty and have no white at their ends, event
-- resources without a reference have a role and a type, and what a constraint applies to has the
-- form that its kind asks for
pub record IsInForm (a : Archive) : Type 0 where
  pub instances : All IsInstance a.instances
  pub solution_groups : All IsSolutionGroup a.solution_groups

-- an archive in form whose texts have only characters that a text of the grammar may have
pub record IsWellFormed (a : Archive) : Type 0 where
  pub in_form : IsInForm a
  pub spellable : IsSpellableArchive a
