-- A small instance and states of it, for examples.
use Rattle.std.specs.Prelude.{ℕ, true, false, Option, Some, None, [], ◌∷◌, codes}
use Rattle.khe_base.specs.declared.costs.CostFn.TheVariants.{Linear}
use Rattle.khe_base.specs.declared.numbers.ResourceId.{ResourceId}
use Rattle.khe_base.specs.declared.numbers.TaskId.{TaskId}
use Rattle.khe_base.specs.declared.numbers.TimeId.{TimeId}
use Rattle.khe_instance.specs.declared.parts.EventInfo.{EventInfo}
use Rattle.khe_instance.specs.declared.parts.Parts.{Parts}
use Rattle.khe_instance.specs.declared.parts.Place.{Place}
use Rattle.khe_instance.specs.declared.points.Monitor.{Monitor}
use Rattle.khe_instance.specs.declared.points.Point.{Point}
use Rattle.khe_instance.specs.declared.points.Point.TheVariants.{Event, Resource}
use Rattle.khe_instance.specs.declared.rules.Constraint.{Constraint}
use Rattle.khe_instance.specs.declared.rules.Kind.{Kind}
use Rattle.khe_instance.specs.declared.rules.Kind.TheVariants as kind
use Rattle.khe_instance.specs.declared.rules.Rule.{Rule}
use Rattle.khe_instance.specs.declared.rules.Rule.TheVariants as rule
use Rattle.khe_told.specs.declared.slots.Slot.{Slot}

abbrev place : Place
place = record { role = Some (codes "R"); rtype = 0; fixed = None; workload = 1 }

abbrev event : ℕ → ℕ → EventInfo
event first duration = record {
  id = codes "E";
  duration = duration;
  fixed = None;
  first_meet = first;
  places =
      place ∷ [];
}

abbrev constraint : Rule → Constraint
constraint r = record { id = codes "c"; required = true; weight = 1; cost = Linear; rule = r }

abbrev monitor : Kind → ℕ → Point → Monitor
monitor k c point = record { kind = k; constraint = c; point = point }

abbrev pub first_resource : ResourceId
first_resource = record { 0 = 0 }

-- two times, two resources of one type, an event of duration 2 and one of duration 1, each with a place
-- of that type; monitors on the times and the splits of the first event, on the times of the second, and
-- on the workload of the first resource
abbrev pub small : Parts
small = record {
  id = codes "I";
  times = codes "t0" ∷ codes "t1" ∷ [];
  types = 1;
  resources = record { id = codes "r0"; rtype = 0 } ∷ record { id = codes "r1"; rtype = 0 } ∷ [];
  groups = [];
  events = event 0 2 ∷ event 2 1 ∷ [];
  constraints = constraint rule.AssignTime ∷ constraint (rule.SplitEvents 1 1 1 2) ∷ constraint
      (rule.PreferTimes (true ∷ false ∷ []) None) ∷ constraint (rule.LimitWorkload 0 0) ∷ [];
  monitors = monitor kind.AssignTime 0 (Event (record { 0 = 0 })) ∷ monitor kind.SplitEvents 1
      (Event (record { 0 = 0 }))
      ∷ monitor kind.PreferTimes 2 (Event (record { 0 = 1 })) ∷ monitor kind.LimitWorkload 3
      (Resource first_resource) ∷ [];
  unit = 2;
}

-- a slot by its number and event, with a meet of this duration and start whose place is given this, and
-- one without a meet
abbrev pub slot : ℕ → ℕ → ℕ → Option TimeId → Option ResourceId → Slot
slot m e duration start given = record {
  meet = record { 0 = m };
  event = record { 0 = e };
  span =
      Some (record { duration = duration; start = start });
  given = given ∷ [];
}

abbrev pub free : ℕ → ℕ → Slot
free m e = record { meet = record { 0 = m }; event = record { 0 = e }; span = None; given = None ∷ [] }

abbrev pub at : ℕ → Option TimeId
at t = Some (record { 0 = t })

abbrev pub task_of : ℕ → TaskId
task_of m = record { meet = record { 0 = m }; place = 0 }
