-- The format's table of elements: for each its attributes, its children with how often each may stand, and what it
-- holds.
use Rattle.std.specs.Prelude.{true, false, List, [], ◌∷◌}
use Rattle.khe_base.specs.declared.limits.TheConstants.{NUMBER, GREATEST_BOUND}
use Rattle.khe_instance.specs.declared.rules.Kind.{Kind}
use Rattle.khe_instance.specs.declared.rules.Kind.TheVariants as kind
use Rattle.xhstt_shape.specs.declared.words.Label.{Label}
use Rattle.xhstt_shape.specs.declared.words.Label.TheVariants as label
use Rattle.xhstt_shape.specs.declared.words.Tag.{Tag}
use Rattle.xhstt_shape.specs.declared.words.Tag.TheVariants as tag
use Rattle.xhstt_shape.specs.declared.schema.Child.{Child}
use Rattle.xhstt_shape.specs.declared.schema.AllowedAttribute.{AllowedAttribute}
use Rattle.xhstt_shape.specs.declared.schema.Content.{Content}
use Rattle.xhstt_shape.specs.declared.schema.Content.TheVariants as content_of
use Rattle.xhstt_shape.specs.declared.schema.Mark.TheVariants.{Once, AtMostOnce, Many}
use Rattle.xhstt_shape.specs.declared.schema.Row.{Row}
use Rattle.xhstt_shape.specs.declared.schema.Row.TheVariants as row

-- a child that stands exactly once, at most once, or any number of times
abbrev pub once : Tag → Row → Child
once t r = record { tag = t; mark = Once; row = r }

abbrev pub at_most_once : Tag → Row → Child
at_most_once t r = record { tag = t; mark = AtMostOnce; row = r }

abbrev pub many : Tag → Row → Child
many t r = record { tag = t; mark = Many; row = r }

-- an attribute that has to stand, and one that may
abbrev pub required : Label → AllowedAttribute
required l = record { label = l; required = true }

abbrev pub optional : Label → AllowedAttribute
optional l = record { label = l; required = false }

-- the attributes of an element, in the order of the table
unfoldable pub attributes : Row → List AllowedAttribute
attributes row.Archive = optional label.Id ∷ []
attributes row.MetaData = []
attributes row.Instances = []
attributes row.Instance = required label.Id ∷ []
attributes row.Times = []
attributes row.TimeGroups = []
attributes row.Named = required label.Id ∷ []
attributes row.Time = required label.Id ∷ []
attributes row.Resources = []
attributes row.ResourceTypes = []
attributes row.ResourceGroups = []
attributes row.ResourceGroup = required label.Id ∷ []
attributes row.Resource = required label.Id ∷ []
attributes row.Events = []
attributes row.EventGroups = []
attributes row.Event = required label.Id ∷ (optional label.Color ∷ [])
attributes row.EventResources = []
attributes row.EventResource = optional label.Reference ∷ []
attributes row.OpenResource = optional label.Reference ∷ []
attributes row.Constraints = []
attributes (row.Constraint k) = required label.Id ∷ []
attributes row.EventApplies = []
attributes row.GroupApplies = []
attributes row.ResourceApplies = []
attributes row.PairApplies = []
attributes row.EventPairs = []
attributes row.EventPair = []
attributes row.Spreads = []
attributes row.Spread = required label.Reference ∷ []
attributes row.SolutionGroups = []
attributes row.SolutionGroup = required label.Id ∷ []
attributes row.Solution = required label.Reference ∷ []
attributes row.Entries = []
attributes row.Entry = required label.Reference ∷ []
attributes row.GivenResources = []
attributes row.Given = required label.Reference ∷ []
attributes row.TimeGroupReferences = []
attributes row.ResourceGroupReferences = []
attributes row.EventGroupReferences = []
attributes row.TimeReferences = []
attributes row.EventReferences = []
attributes row.ResourceReferences = []
attributes row.Reference = required label.Reference ∷ []
attributes row.Text = []
attributes row.Number = []
attributes row.Duration = []
attributes row.Bound = []
attributes row.Truth = []
attributes row.Function = []
attributes row.Role = []
attributes row.Anything = []

-- the children that each constraint has, before those of its kind
abbrev pub constraint : Row → List Child → List Child
constraint applies further =
    at_most_once tag.Name row.Text ∷ (once tag.Required
    row.Truth ∷ (once tag.Weight row.Number ∷ (once tag.CostFunction
    row.Function ∷ (once tag.AppliesTo applies ∷ further))))

-- the children of a constraint, in the order of the table
unfoldable pub constraint_children : Kind → List Child
constraint_children kind.AssignTime = constraint row.EventApplies []
constraint_children kind.AssignResource = constraint row.EventApplies (once tag.Role row.Role ∷ [])
constraint_children kind.SplitEvents = constraint row.EventApplies
    (at_most_once tag.MinimumDuration row.Number ∷ (at_most_once tag.MaximumDuration
    row.Bound ∷ (at_most_once tag.MinimumAmount row.Number ∷ (at_most_once tag.MaximumAmount row.Bound ∷ []))))
constraint_children kind.DistributeSplitEvents =
    constraint row.EventApplies (once tag.Duration
    row.Duration ∷ (at_most_once tag.Minimum row.Number ∷ (at_most_once tag.Maximum row.Bound ∷ [])))
constraint_children kind.PreferTimes = constraint row.EventApplies
    (at_most_once tag.TimeGroups row.TimeGroupReferences ∷ (at_most_once tag.Times
    row.TimeReferences ∷ (at_most_once tag.Duration row.Duration ∷ [])))
constraint_children kind.PreferResources = constraint row.EventApplies
    (at_most_once tag.ResourceGroups row.ResourceGroupReferences ∷ (at_most_once tag.Resources
    row.ResourceReferences ∷ (once tag.Role row.Role ∷ [])))
constraint_children kind.AvoidSplitAssignments = constraint row.GroupApplies (once tag.Role row.Role ∷ [])
constraint_children kind.SpreadEvents = constraint row.GroupApplies (at_most_once tag.TimeGroups row.Spreads ∷ [])
constraint_children kind.LinkEvents = constraint row.GroupApplies []
constraint_children kind.OrderEvents = constraint row.PairApplies []
constraint_children kind.AvoidClashes = constraint row.ResourceApplies []
constraint_children kind.AvoidUnavailableTimes =
    constraint row.ResourceApplies (at_most_once tag.TimeGroups
    row.TimeGroupReferences ∷ (at_most_once tag.Times row.TimeReferences ∷ []))
constraint_children kind.LimitIdleTimes = constraint row.ResourceApplies
    (at_most_once tag.TimeGroups row.TimeGroupReferences ∷ (at_most_once tag.Minimum
    row.Number ∷ (at_most_once tag.Maximum row.Bound ∷ [])))
constraint_children kind.ClusterBusyTimes = constraint row.ResourceApplies
    (at_most_once tag.TimeGroups row.TimeGroupReferences ∷ (at_most_once tag.Minimum
    row.Number ∷ (at_most_once tag.Maximum row.Bound ∷ [])))
constraint_children kind.LimitBusyTimes = constraint row.ResourceApplies
    (at_most_once tag.TimeGroups row.TimeGroupReferences ∷ (at_most_once tag.Minimum
    row.Number ∷ (at_most_once tag.Maximum row.Bound ∷ [])))
constraint_children kind.LimitWorkload = constraint row.ResourceApplies
    (at_most_once tag.Minimum row.Number ∷ (at_most_once tag.Maximum row.Bound ∷ []))

-- the children of an element, in the order of the table
unfoldable pub children : Row → List Child
children row.Archive =
    at_most_once tag.MetaData row.MetaData ∷ (at_most_once tag.Instances
    row.Instances ∷ (at_most_once tag.SolutionGroups row.SolutionGroups ∷ []))
children row.MetaData =
    at_most_once tag.Name row.Text ∷ (at_most_once tag.Contributor
    row.Text ∷ (at_most_once tag.Date row.Text ∷ (at_most_once tag.Country
    row.Text ∷ (at_most_once tag.Description row.Text ∷ (at_most_once tag.Publication
    row.Text ∷ (at_most_once tag.Remarks row.Text ∷ []))))))
children row.Instances = many tag.Instance row.Instance ∷ []
children row.Instance =
    at_most_once tag.MetaData row.MetaData ∷ (at_most_once tag.Times
    row.Times ∷ (at_most_once tag.Resources row.Resources ∷ (at_most_once tag.Events
    row.Events ∷ (at_most_once tag.Constraints row.Constraints ∷ []))))
children row.Times = at_most_once tag.TimeGroups row.TimeGroups ∷ (many tag.Time row.Time ∷ [])
children row.TimeGroups =
    many tag.Week row.Named ∷ (many tag.Day row.Named ∷ (many tag.TimeGroup row.Named ∷ []))
children row.Named = at_most_once tag.Name row.Text ∷ []
children row.Time =
    at_most_once tag.Name row.Text ∷ (at_most_once tag.Week
    row.Reference ∷ (at_most_once tag.Day row.Reference ∷ (at_most_once tag.TimeGroups
    row.TimeGroupReferences ∷ [])))
children row.Resources =
    at_most_once tag.ResourceTypes row.ResourceTypes ∷ (at_most_once tag.ResourceGroups
    row.ResourceGroups ∷ (many tag.Resource row.Resource ∷ []))
children row.ResourceTypes = many tag.ResourceType row.Named ∷ []
children row.ResourceGroups = many tag.ResourceGroup row.ResourceGroup ∷ []
children row.ResourceGroup = at_most_once tag.Name row.Text ∷ (once tag.ResourceType row.Reference ∷ [])
children row.Resource =
    at_most_once tag.Name row.Text ∷ (once tag.ResourceType
    row.Reference ∷ (at_most_once tag.ResourceGroups row.ResourceGroupReferences ∷ []))
children row.Events = at_most_once tag.EventGroups row.EventGroups ∷ (many tag.Event row.Event ∷ [])
children row.EventGroups = many tag.Course row.Named ∷ (many tag.EventGroup row.Named ∷ [])
children row.Event =
    at_most_once tag.Name row.Text ∷ (once tag.Duration
    row.Duration ∷ (at_most_once tag.Workload row.Number ∷ (at_most_once tag.Course
    row.Reference ∷ (at_most_once tag.Time row.Reference ∷ (at_most_once tag.Resources
    row.EventResources ∷ (at_most_once tag.ResourceGroups
    row.ResourceGroupReferences ∷ (at_most_once tag.EventGroups row.EventGroupReferences ∷ [])))))))
children row.EventResources = many tag.Resource row.EventResource ∷ []
children row.EventResource =
    at_most_once tag.Role row.Role ∷ (at_most_once tag.ResourceType
    row.Reference ∷ (at_most_once tag.Workload row.Number ∷ []))
children row.OpenResource =
    once tag.Role row.Role ∷ (once tag.ResourceType row.Reference ∷ (at_most_once tag.Workload row.Number ∷ []))
children row.Constraints =
    many (tag.Constraint kind.AssignTime) (row.Constraint kind.AssignTime) ∷ (many (tag.Constraint kind.AssignResource)
    (row.Constraint kind.AssignResource) ∷ (many (tag.Constraint kind.SplitEvents)
    (row.Constraint kind.SplitEvents) ∷ (many (tag.Constraint kind.DistributeSplitEvents)
    (row.Constraint kind.DistributeSplitEvents) ∷ (many (tag.Constraint kind.PreferTimes)
    (row.Constraint kind.PreferTimes) ∷ (many (tag.Constraint kind.PreferResources)
    (row.Constraint kind.PreferResources) ∷ (many (tag.Constraint kind.AvoidSplitAssignments)
    (row.Constraint kind.AvoidSplitAssignments) ∷ (many (tag.Constraint kind.SpreadEvents)
    (row.Constraint kind.SpreadEvents) ∷ (many (tag.Constraint kind.LinkEvents)
    (row.Constraint kind.LinkEvents) ∷ (many (tag.Constraint kind.OrderEvents)
    (row.Constraint kind.OrderEvents) ∷ (many (tag.Constraint kind.AvoidClashes)
    (row.Constraint kind.AvoidClashes) ∷ (many (tag.Constraint kind.AvoidUnavailableTimes)
    (row.Constraint kind.AvoidUnavailableTimes) ∷ (many (tag.Constraint kind.LimitIdleTimes)
    (row.Constraint kind.LimitIdleTimes) ∷ (many (tag.Constraint kind.ClusterBusyTimes)
    (row.Constraint kind.ClusterBusyTimes) ∷ (many (tag.Constraint kind.LimitBusyTimes)
    (row.Constraint kind.LimitBusyTimes) ∷ (many (tag.Constraint kind.LimitWorkload)
    (row.Constraint kind.LimitWorkload) ∷ [])))))))))))))))
children (row.Constraint k) = constraint_children k
children row.EventApplies = at_most_once tag.EventGroups
    row.EventGroupReferences ∷ (at_most_once tag.Events row.EventReferences ∷ [])
children row.GroupApplies = at_most_once tag.EventGroups row.EventGroupReferences ∷ []
children row.ResourceApplies = at_most_once tag.ResourceGroups
    row.ResourceGroupReferences ∷ (at_most_once tag.Resources row.ResourceReferences ∷ [])
children row.PairApplies = at_most_once tag.EventPairs row.EventPairs ∷ []
children row.EventPairs = many tag.EventPair row.EventPair ∷ []
children row.EventPair =
    once tag.FirstEvent row.Reference ∷ (once tag.SecondEvent
    row.Reference ∷ (at_most_once tag.MinSeparation row.Number ∷ (at_most_once tag.MaxSeparation row.Bound ∷ [])))
children row.Spreads = many tag.TimeGroup row.Spread ∷ []
children row.Spread = at_most_once tag.Minimum row.Number ∷ (at_most_once tag.Maximum row.Bound ∷ [])
children row.SolutionGroups = many tag.SolutionGroup row.SolutionGroup ∷ []
children row.SolutionGroup = at_most_once tag.MetaData row.MetaData ∷ (many tag.Solution row.Solution ∷ [])
children row.Solution =
    at_most_once tag.Description row.Text ∷ (at_most_once tag.RunningTime
    row.Text ∷ (at_most_once tag.Events row.Entries ∷ (at_most_once tag.Report row.Anything ∷ [])))
children row.Entries = many tag.Event row.Entry ∷ []
children row.Entry =
    at_most_once tag.Duration row.Duration ∷ (at_most_once tag.Time
    row.Reference ∷ (at_most_once tag.Resources row.GivenResources ∷ []))
children row.GivenResources = many tag.Resource row.Given ∷ []
children row.Given = at_most_once tag.Role row.Role ∷ []
children row.TimeGroupReferences = many tag.TimeGroup row.Reference ∷ []
children row.ResourceGroupReferences = many tag.ResourceGroup row.Reference ∷ []
children row.EventGroupReferences = many tag.EventGroup row.Reference ∷ []
children row.TimeReferences = many tag.Time row.Reference ∷ []
children row.EventReferences = many tag.Event row.Reference ∷ []
children row.ResourceReferences = many tag.Resource row.Reference ∷ []
children row.Reference = []
children row.Text = []
children row.Number = []
children row.Duration = []
children row.Bound = []
children row.Truth = []
children row.Function = []
children row.Role = []
children row.Anything = []

-- what stands in an element
unfoldable pub content : Row → Content
content row.Archive = content_of.Elements
content row.MetaData = content_of.Elements
content row.Instances = content_of.Elements
content row.Instance = content_of.Elements
content row.Times = content_of.Elements
content row.TimeGroups = content_of.Elements
content row.Named = content_of.Elements
content row.Time = content_of.Elements
content row.Resources = content_of.Elements
content row.ResourceTypes = content_of.Elements
content row.ResourceGroups = content_of.Elements
content row.ResourceGroup = content_of.Elements
content row.Resource = content_of.Elements
content row.Events = content_of.Elements
content row.EventGroups = content_of.Elements
content row.Event = content_of.Elements
content row.EventResources = content_of.Elements
content row.EventResource = content_of.Elements
content row.OpenResource = content_of.Elements
content row.Constraints = content_of.Elements
content (row.Constraint k) = content_of.Elements
content row.EventApplies = content_of.Elements
content row.GroupApplies = content_of.Elements
content row.ResourceApplies = content_of.Elements
content row.PairApplies = content_of.Elements
content row.EventPairs = content_of.Elements
content row.EventPair = content_of.Elements
content row.Spreads = content_of.Elements
content row.Spread = content_of.Elements
content row.SolutionGroups = content_of.Elements
content row.SolutionGroup = content_of.Elements
content row.Solution = content_of.Elements
content row.Entries = content_of.Elements
content row.Entry = content_of.Elements
content row.GivenResources = content_of.Elements
content row.Given = content_of.Elements
content row.TimeGroupReferences = content_of.Elements
content row.ResourceGroupReferences = content_of.Elements
content row.EventGroupReferences = content_of.Elements
content row.TimeReferences = content_of.Elements
content row.EventReferences = content_of.Elements
content row.ResourceReferences = content_of.Elements
content row.Reference = content_of.Elements
content row.Text = content_of.Text
content row.Number = content_of.Number 0 NUMBER
content row.Duration = content_of.Number 1 NUMBER
content row.Bound = content_of.Number 0 GREATEST_BOUND
content row.Truth = content_of.Truth
content row.Function = content_of.Function
content row.Role = content_of.Role
content row.Anything = content_of.Anything
