-- How the names of elements and attributes are spelled.
use Rattle.std.specs.Prelude.{ℕ, List, codes}
use Rattle.khe_instance.specs.declared.rules.Kind.{Kind}
use Rattle.khe_instance.specs.declared.rules.Kind.TheVariants as kind
use Rattle.xhstt_shape.specs.declared.words.Label.{Label}
use Rattle.xhstt_shape.specs.declared.words.Label.TheVariants as label
use Rattle.xhstt_shape.specs.declared.words.Tag.{Tag}
use Rattle.xhstt_shape.specs.declared.words.Tag.TheVariants as tag

-- the name of a constraint of a kind
unfoldable pub kind_word : Kind → List ℕ
kind_word kind.AssignTime = codes "AssignTimeConstraint"
kind_word kind.AssignResource = codes "AssignResourceConstraint"
kind_word kind.SplitEvents = codes "SplitEventsConstraint"
kind_word kind.DistributeSplitEvents = codes "DistributeSplitEventsConstraint"
kind_word kind.PreferTimes = codes "PreferTimesConstraint"
kind_word kind.PreferResources = codes "PreferResourcesConstraint"
kind_word kind.AvoidSplitAssignments = codes "AvoidSplitAssignmentsConstraint"
kind_word kind.SpreadEvents = codes "SpreadEventsConstraint"
kind_word kind.LinkEvents = codes "LinkEventsConstraint"
kind_word kind.OrderEvents = codes "OrderEventsConstraint"
kind_word kind.AvoidClashes = codes "AvoidClashesConstraint"
kind_word kind.AvoidUnavailableTimes = codes "AvoidUnavailableTimesConstraint"
kind_word kind.LimitIdleTimes = codes "LimitIdleTimesConstraint"
kind_word kind.ClusterBusyTimes = codes "ClusterBusyTimesConstraint"
kind_word kind.LimitBusyTimes = codes "LimitBusyTimesConstraint"
kind_word kind.LimitWorkload = codes "LimitWorkloadConstraint"

-- the name of an element
unfoldable pub word : Tag → List ℕ
word tag.HighSchoolTimetableArchive = codes "HighSchoolTimetableArchive"
word tag.MetaData = codes "MetaData"
word tag.Instances = codes "Instances"
word tag.SolutionGroups = codes "SolutionGroups"
word tag.Name = codes "Name"
word tag.Contributor = codes "Contributor"
word tag.Date = codes "Date"
word tag.Country = codes "Country"
word tag.Description = codes "Description"
word tag.Publication = codes "Publication"
word tag.Remarks = codes "Remarks"
word tag.Instance = codes "Instance"
word tag.Times = codes "Times"
word tag.Resources = codes "Resources"
word tag.Events = codes "Events"
word tag.Constraints = codes "Constraints"
word tag.TimeGroups = codes "TimeGroups"
word tag.Time = codes "Time"
word tag.Week = codes "Week"
word tag.Day = codes "Day"
word tag.TimeGroup = codes "TimeGroup"
word tag.ResourceTypes = codes "ResourceTypes"
word tag.ResourceGroups = codes "ResourceGroups"
word tag.Resource = codes "Resource"
word tag.ResourceType = codes "ResourceType"
word tag.ResourceGroup = codes "ResourceGroup"
word tag.EventGroups = codes "EventGroups"
word tag.Event = codes "Event"
word tag.Course = codes "Course"
word tag.EventGroup = codes "EventGroup"
word tag.Duration = codes "Duration"
word tag.Workload = codes "Workload"
word tag.Role = codes "Role"
word tag.Required = codes "Required"
word tag.Weight = codes "Weight"
word tag.CostFunction = codes "CostFunction"
word tag.AppliesTo = codes "AppliesTo"
word tag.MinimumDuration = codes "MinimumDuration"
word tag.MaximumDuration = codes "MaximumDuration"
word tag.MinimumAmount = codes "MinimumAmount"
word tag.MaximumAmount = codes "MaximumAmount"
word tag.Minimum = codes "Minimum"
word tag.Maximum = codes "Maximum"
word tag.EventPairs = codes "EventPairs"
word tag.EventPair = codes "EventPair"
word tag.FirstEvent = codes "FirstEvent"
word tag.SecondEvent = codes "SecondEvent"
word tag.MinSeparation = codes "MinSeparation"
word tag.MaxSeparation = codes "MaxSeparation"
word tag.SolutionGroup = codes "SolutionGroup"
word tag.Solution = codes "Solution"
word tag.RunningTime = codes "RunningTime"
word tag.Report = codes "Report"
word (tag.Constraint kind) = kind_word kind

-- the name of an attribute
unfoldable pub label_word : Label → List ℕ
label_word label.Id = codes "Id"
label_word label.Reference = codes "Reference"
label_word label.Color = codes "Color"
