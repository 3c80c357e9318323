-- The kind of a rule, one of sixteen.
use Rattle.khe_instance.specs.declared.rules.Kind.{Kind}
use Rattle.khe_instance.specs.declared.rules.Kind.TheVariants as kind
use Rattle.khe_instance.specs.declared.rules.Rule.{Rule}
use Rattle.khe_instance.specs.declared.rules.Rule.TheVariants.{AssignTime, AssignResource, SplitEvents}
use Rattle.khe_instance.specs.declared.rules.Rule.TheVariants.{DistributeSplitEvents, PreferTimes, PreferResources}
use Rattle.khe_instance.specs.declared.rules.Rule.TheVariants.{AvoidSplitAssignments, SpreadEvents, LinkEvents}
use Rattle.khe_instance.specs.declared.rules.Rule.TheVariants.{OrderEvents, AvoidClashes, AvoidUnavailableTimes}
use Rattle.khe_instance.specs.declared.rules.Rule.TheVariants.{LimitIdleTimes, ClusterBusyTimes, LimitBusyTimes}
use Rattle.khe_instance.specs.declared.rules.Rule.TheVariants.{LimitWorkload}

abbrev pub kind_of : Rule → Kind
kind_of AssignTime = kind.AssignTime
kind_of (AssignResource role) = kind.AssignResource
kind_of (SplitEvents a b c d) = kind.SplitEvents
kind_of (DistributeSplitEvents d least greatest) = kind.DistributeSplitEvents
kind_of (PreferTimes times duration) = kind.PreferTimes
kind_of (PreferResources resources role) = kind.PreferResources
kind_of (AvoidSplitAssignments role) = kind.AvoidSplitAssignments
kind_of (SpreadEvents spreads) = kind.SpreadEvents
kind_of LinkEvents = kind.LinkEvents
kind_of (OrderEvents pairs) = kind.OrderEvents
kind_of AvoidClashes = kind.AvoidClashes
kind_of (AvoidUnavailableTimes times) = kind.AvoidUnavailableTimes
kind_of (LimitIdleTimes groups least greatest) = kind.LimitIdleTimes
kind_of (ClusterBusyTimes groups least greatest) = kind.ClusterBusyTimes
kind_of (LimitBusyTimes groups least greatest) = kind.LimitBusyTimes
kind_of (LimitWorkload least greatest) = kind.LimitWorkload
