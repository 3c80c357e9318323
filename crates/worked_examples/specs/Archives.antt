-- An instance of an archive, for examples of what its constraints' points are and of which limit it is above.
use Rattle.std.specs.Prelude.{ℕ, true, Some, None, List, [], ◌∷◌, codes, map}
use Rattle.khe_base.specs.declared.costs.CostFn.TheVariants.{Linear}
use Rattle.khe_instance.specs.declared.points.Point.{Point}
use Rattle.khe_instance.specs.declared.points.Point.TheVariants as point
use Rattle.xhstt_shape.specs.declared.constraints.RawApplies.{RawApplies}
use Rattle.xhstt_shape.specs.declared.constraints.RawConstraint.{RawConstraint}
use Rattle.xhstt_shape.specs.declared.constraints.RawPair.{RawPair}
use Rattle.xhstt_shape.specs.declared.constraints.RawRule.{RawRule}
use Rattle.xhstt_shape.specs.declared.records.GroupSort.TheVariants as grouped
use Rattle.xhstt_shape.specs.declared.records.Name.{Name}
use Rattle.xhstt_shape.specs.declared.records.RawEvent.{RawEvent}
use Rattle.xhstt_shape.specs.declared.records.RawEventResource.{RawEventResource}
use Rattle.xhstt_shape.specs.declared.records.RawInstance.{RawInstance}
use Rattle.xhstt_shape.specs.declared.records.RawResource.{RawResource}
use Rattle.xhstt_shape.specs.declared.records.Ref.{Ref}
use Rattle.xhstt_shape.specs.declared.records.Time.{Time}

abbrev pub name : List ℕ → Name
name text = record { text = text; at = 0 }

abbrev pub ref : List ℕ → Ref
ref id = record { id = id; at = 0 }

abbrev pub time : List ℕ → Time
time id = record { id = name id; name = []; week = None; day = None; time_groups = [] }

-- an event resource of a role, an event in a group with such event resources
abbrev pub in_role : List ℕ → RawEventResource
in_role role = record {
  reference = None;
  role = Some (name role);
  resource_type = Some (ref (codes "X"));
  workload = None;
}

abbrev pub event : List ℕ → ℕ → List (List ℕ) → RawEvent
event id duration roles = record {
  id = name id;
  color = None;
  name = [];
  duration = duration;
  workload = None;
  course = None;
  time = None;
  resources = map in_role roles;
  resource_groups = [];
  event_groups = ref (codes "G") ∷ [];
}

abbrev pub resource : List ℕ → List Ref → RawResource
resource id groups = record { id = name id; name = []; resource_type = ref (codes "X"); resource_groups = groups }

abbrev pub constraint : RawApplies → RawRule → RawConstraint
constraint applies rule = record {
  id = name (codes "c");
  name = [];
  required = true;
  weight = 1;
  cost = Linear;
  applies = applies;
  rule = rule;
}

abbrev pub pair : List ℕ → List ℕ → RawPair
pair a b = record { first = ref a; second = ref b; min = 0; max = 0 }

-- two times, two resources of which the second is in a group, and a group of two events of these durations: the first
-- with event resources of the roles S and R, the second of R
abbrev pub instance : ℕ → ℕ → List RawConstraint → RawInstance
instance first second constraints = record {
  id = name (codes "I");
  meta_data = None;
  time_groups = [];
  times = time (codes "t0") ∷ time (codes "t1") ∷ [];
  resource_types = record { id = name (codes "X"); name = [] } ∷ [];
  resource_groups = record { id = name (codes "Y"); name = []; resource_type = ref (codes "X") } ∷ [];
  resources = resource (codes "r0") [] ∷ resource (codes "r1") (ref (codes "Y") ∷ []) ∷ [];
  event_groups = record { sort = grouped.Group; id = name (codes "G"); name = [] } ∷ [];
  events = event (codes "E") first (codes "S" ∷ codes "R" ∷ []) ∷ event (codes "F") second (codes "R" ∷ []) ∷ [];
  constraints = constraints;
}

abbrev pub small : RawInstance
small = instance 3 2 []

-- points by their numbers
abbrev pub at_event : ℕ → Point
at_event e = point.Event (record { 0 = e })

abbrev pub at_place : ℕ → ℕ → Point
at_place e k = point.EventResource (record { 0 = e }) k

abbrev pub at_resource : ℕ → Point
at_resource r = point.Resource (record { 0 = r })
