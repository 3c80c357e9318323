-- Ids and the names of kinds, as the lines of a report write them.
use Rattle.std.specs.Prelude.{ℕ, Bool, not, ◌||◌, ◌==◌, List, ◌++◌, codes}
use Rattle.khe_instance.specs.declared.rules.Kind.{Kind}
use Rattle.khe_instance.specs.declared.rules.Kind.TheVariants.{AssignTime, AssignResource, SplitEvents}
use Rattle.khe_instance.specs.declared.rules.Kind.TheVariants.{DistributeSplitEvents, PreferTimes, PreferResources}
use Rattle.khe_instance.specs.declared.rules.Kind.TheVariants.{AvoidSplitAssignments, SpreadEvents, LinkEvents}
use Rattle.khe_instance.specs.declared.rules.Kind.TheVariants.{OrderEvents, AvoidClashes, AvoidUnavailableTimes}
use Rattle.khe_instance.specs.declared.rules.Kind.TheVariants.{LimitIdleTimes, ClusterBusyTimes, LimitBusyTimes}
use Rattle.khe_instance.specs.declared.rules.Kind.TheVariants.{LimitWorkload}
use Rattle.xhstt_text.specs.Escape.{escaped}

-- an Id in quotes, escaped as in an attribute
abbrev pub quoted : List ℕ → List ℕ
quoted id = codes "\"" ++ escaped id ++ codes "\""

-- whether a byte is no character that is written as a reference
abbrev pub stays : ℕ → Bool
stays b = not (b == 38 || b == 60 || b == 62 || b == 34 || b == 9 || b == 10 || b == 13)

-- a kind is named as its element in the XHSTT format, without the word Constraint
abbrev pub kind_name : Kind → List ℕ
kind_name AssignTime = codes "AssignTime"
kind_name AssignResource = codes "AssignResource"
kind_name SplitEvents = codes "SplitEvents"
kind_name DistributeSplitEvents = codes "DistributeSplitEvents"
kind_name PreferTimes = codes "PreferTimes"
kind_name PreferResources = codes "PreferResources"
kind_name AvoidSplitAssignments = codes "AvoidSplitAssignments"
kind_name SpreadEvents = codes "SpreadEvents"
kind_name LinkEvents = codes "LinkEvents"
kind_name OrderEvents = codes "OrderEvents"
kind_name AvoidClashes = codes "AvoidClashes"
kind_name AvoidUnavailableTimes = codes "AvoidUnavailableTimes"
kind_name LimitIdleTimes = codes "LimitIdleTimes"
kind_name ClusterBusyTimes = codes "ClusterBusyTimes"
kind_name LimitBusyTimes = codes "LimitBusyTimes"
kind_name LimitWorkload = codes "LimitWorkload"
