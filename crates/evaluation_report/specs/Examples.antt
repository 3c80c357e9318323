-- A small instance for examples.
use Rattle.std.specs.Prelude.{ℕ, Bool, true, false, Some, None, List, [], ◌∷◌, codes}
use Rattle.khe_base.specs.declared.costs.CostFn.TheVariants.{Linear}
use Rattle.khe_instance.specs.declared.parts.EventInfo.{EventInfo}
use Rattle.khe_instance.specs.declared.parts.Parts.{Parts}
use Rattle.khe_instance.specs.declared.points.Monitor.{Monitor}
use Rattle.khe_instance.specs.declared.points.Point.{Point}
use Rattle.khe_instance.specs.declared.points.Point.TheVariants.{Event, EventResource, EventGroup, EventPair as Pair}
use Rattle.khe_instance.specs.declared.points.Point.TheVariants.{Resource}
use Rattle.khe_instance.specs.declared.rules.Constraint.{Constraint}
use Rattle.khe_instance.specs.declared.rules.EventPair.{EventPair}
use Rattle.khe_instance.specs.declared.rules.Rule.{Rule}
use Rattle.khe_instance.specs.declared.rules.Rule.TheVariants.{AssignTime, AssignResource, PreferTimes, LinkEvents}
use Rattle.khe_instance.specs.declared.rules.Rule.TheVariants.{OrderEvents, AvoidClashes}
use Rattle.khe_instance.specs.Kinds.{kind_of}

-- an event by its Id, its duration and its first meet slot, with a place in the role R
abbrev pub event : List ℕ → ℕ → ℕ → EventInfo
event id duration first_meet = record {
  id = id;
  duration = duration;
  fixed = None;
  first_meet = first_meet;
  places = record { role = Some (codes "R"); rtype = 0; fixed = None; workload = duration } ∷ [];
}

-- a constraint of linear cost
abbrev pub constraint : List ℕ → Bool → ℕ → Rule → Constraint
constraint id required weight rule = record {
  id = id;
  required = required;
  weight = weight;
  cost = Linear;
  rule =
      rule;
}

-- a monitor of the constraint with a number, which has this rule
abbrev pub monitor : ℕ → Rule → Point → Monitor
monitor number rule point = record { kind = kind_of rule; constraint = number; point = point }

-- a pair of the first event and the second
abbrev pub pair : EventPair
pair = record { first = record { 0 = 0 }; second = record { 0 = 1 }; min = 0; max = 0 }

-- three times, two resources, an event of duration 3 and one of duration 1, and constraints with
-- points of each form
abbrev pub two_events : Parts
two_events = record {
  id = codes "J";
  times = codes "t0" ∷ codes "t1" ∷ codes "t2" ∷ [];
  types = 1;
  resources = record { id = codes "r0"; rtype = 0 } ∷ record { id = codes "r1"; rtype = 0 } ∷ [];
  groups = record { id = codes "both"; events = true ∷ true ∷ [] } ∷ [];
  events = event (codes "E") 3 0 ∷ event (codes "F") 1 3 ∷ [];
  constraints =
      constraint (codes "c0") true 2 AssignTime
      ∷ constraint (codes "c1") true 1 (AssignResource (codes "R"))
      ∷ constraint (codes "c2") true 5 AvoidClashes
      ∷ constraint (codes "c3") false 3 (PreferTimes (true ∷ false ∷ false ∷ []) None)
      ∷ constraint (codes "c4") true 1 LinkEvents
      ∷ constraint (codes "c5") false 1 (OrderEvents (pair ∷ []))
      ∷ [];
  monitors =
      monitor 0 AssignTime (Event (record { 0 = 0 }))
      ∷ monitor 0 AssignTime (Event (record { 0 = 1 }))
      ∷ monitor 1 (AssignResource (codes "R")) (EventResource (record { 0 = 0 }) 0)
      ∷ monitor 1 (AssignResource (codes "R")) (EventResource (record { 0 = 1 }) 0)
      ∷ monitor 2 AvoidClashes (Resource (record { 0 = 0 }))
      ∷ monitor 2 AvoidClashes (Resource (record { 0 = 1 }))
      ∷ monitor 3 (PreferTimes (true ∷ false ∷ false ∷ []) None) (Event (record { 0 = 1 }))
      ∷ monitor 4 LinkEvents (EventGroup 0)
      ∷ monitor 5 (OrderEvents (pair ∷ [])) (Pair 0)
      ∷ [];
  unit = 3;
}
