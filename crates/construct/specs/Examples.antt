-- A small instance and states of it, for examples.
use Rattle.std.specs.Prelude.{ℕ, true, false, Option, Some, None, List, [], ◌∷◌, codes}
use Rattle.construct.specs.declared.bounds.Bounds.{Bounds}
use Rattle.khe_base.specs.declared.costs.CostFn.TheVariants.{Linear}
use Rattle.khe_base.specs.declared.numbers.ResourceId.{ResourceId}
use Rattle.khe_base.specs.declared.numbers.TimeId.{TimeId}
use Rattle.khe_engine.specs.States.{State}
use Rattle.khe_instance.specs.declared.parts.EventInfo.{EventInfo}
use Rattle.khe_instance.specs.declared.parts.Parts.{Parts}
use Rattle.khe_instance.specs.declared.parts.Place.{Place}
use Rattle.khe_instance.specs.declared.points.Monitor.{Monitor}
use Rattle.khe_instance.specs.declared.points.Point.{Point}
use Rattle.khe_instance.specs.declared.points.Point.TheVariants.{Event, EventResource}
use Rattle.khe_instance.specs.declared.rules.Constraint.{Constraint}
use Rattle.khe_instance.specs.declared.rules.Kind.{Kind}
use Rattle.khe_instance.specs.declared.rules.Kind.TheVariants as kind
use Rattle.khe_instance.specs.declared.rules.Rule.{Rule}
use Rattle.khe_instance.specs.declared.rules.Rule.TheVariants as rule
use Rattle.khe_told.specs.declared.slots.Slot.{Slot}

abbrev pub bounds : ℕ → ℕ → ℕ → ℕ → Bounds
bounds a b c d = record { min_duration = a; max_duration = b; min_amount = c; max_amount = d }

abbrev place : Place
place = record { role = Some (codes "R"); rtype = 0; fixed = None; workload = 1 }

abbrev pub at : ℕ → Option TimeId
at t = Some (record { 0 = t })

abbrev pub given : ℕ → Option ResourceId
given r = Some (record { 0 = r })

abbrev pub event : ℕ → ℕ → Option TimeId → EventInfo
event first duration fixed = record {
  id = codes "E";
  duration = duration;
  fixed = fixed;
  first_meet = first;
  places = place ∷ [];
}

abbrev constraint : Rule → Constraint
constraint r = record { id = codes "c"; required = true; weight = 1; cost = Linear; rule = r }

abbrev monitor : Kind → ℕ → Point → Monitor
monitor k c point = record { kind = k; constraint = c; point = point }

-- three times, a resource of another type and one of the type of each place; an event of duration 3 that is to be
-- two meets of at most 2, which prefers the last time, and one of duration 1 with the first time preassigned; a
-- resource is wanted at the place of the first, and nothing is asked of the second
abbrev pub small : Parts
small = record {
  id = codes "I";
  times = codes "t0" ∷ codes "t1" ∷ codes "t2" ∷ [];
  types = 2;
  resources = record { id = codes "r0"; rtype = 1 } ∷ record { id = codes "r1"; rtype = 0 } ∷ [];
  groups = [];
  events = event 0 3 None ∷ event 3 1 (at 0) ∷ [];
  constraints = constraint rule.AssignTime ∷ constraint (rule.SplitEvents 1 2 1 3) ∷ constraint
      (rule.PreferTimes (false ∷ false ∷ true ∷ []) None) ∷ constraint (rule.AssignResource (codes "R")) ∷ [];
  monitors = monitor kind.AssignTime 0 (Event (record { 0 = 0 })) ∷ monitor kind.SplitEvents 1
      (Event (record { 0 = 0 }))
      ∷ monitor kind.PreferTimes 2 (Event (record { 0 = 0 })) ∷ monitor kind.AssignResource 3
      (EventResource (record { 0 = 0 }) 0) ∷ [];
  unit = 3;
}

-- a slot by its number and event, with a meet of this duration and start whose place is given this, and one
-- without a meet
abbrev pub slot : ℕ → ℕ → ℕ → Option TimeId → Option ResourceId → Slot
slot m e duration start r = record {
  meet = record { 0 = m };
  event = record { 0 = e };
  span = Some (record { duration = duration; start = start });
  given = r ∷ [];
}

abbrev pub free : ℕ → ℕ → Slot
free m e = record { meet = record { 0 = m }; event = record { 0 = e }; span = None; given = None ∷ [] }

abbrev pub state_of : List Slot → State
state_of s = record {
  slots = s;
  grouping = record { attached = true ∷ true ∷ true ∷ true ∷ []; groups = [] };
}
