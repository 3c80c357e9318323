-- The sets of times that a rule at a resource names.
use Rattle.std.specs.Prelude.{Bool, true, false, List, [], ◌∷◌, map}
use Rattle.khe_instance.specs.declared.parts.Parts.{Parts}
use Rattle.khe_instance.specs.declared.points.Point.{Point}
use Rattle.khe_instance.specs.declared.points.Point.TheVariants.{Resource}
use Rattle.khe_instance.specs.declared.rules.Rule.{Rule}
use Rattle.khe_instance.specs.declared.rules.Rule.TheVariants.{AvoidUnavailableTimes, LimitIdleTimes, ClusterBusyTimes}
use Rattle.khe_instance.specs.declared.rules.Rule.TheVariants.{LimitBusyTimes}

-- in the order of its list, with repeats
abbrev pub sets_of : Rule → List (List Bool)
sets_of (AvoidUnavailableTimes times) = times ∷ []
sets_of (LimitIdleTimes groups least greatest) = groups
sets_of (ClusterBusyTimes groups least greatest) = groups
sets_of (LimitBusyTimes groups least greatest) = groups
sets_of _ = []

-- those of each constraint of an instance
abbrev pub room_for : Parts → List (List (List Bool))
room_for p = map (λ c. sets_of c.rule) p.constraints

-- whether a monitor is at a resource
abbrev pub is_at_resource : Point → Bool
is_at_resource (Resource r) = true
is_at_resource _ = false
