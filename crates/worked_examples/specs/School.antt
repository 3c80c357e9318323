-- A small school and states of it: three times, two resources of one type, an event of duration 3 and one of
-- duration 1, each with a place of that type.
use Rattle.std.specs.Prelude.{ℕ, Bool, true, false, Option, Some, None, List, [], ◌∷◌, codes}
use Rattle.khe_base.specs.declared.costs.CostFn.TheVariants.{Linear}
use Rattle.khe_base.specs.declared.numbers.GroupId.{GroupId}
use Rattle.khe_base.specs.declared.numbers.MeetId.{MeetId}
use Rattle.khe_base.specs.declared.numbers.MonitorId.{MonitorId}
use Rattle.khe_base.specs.declared.numbers.ResourceId.{ResourceId}
use Rattle.khe_base.specs.declared.numbers.TaskId.{TaskId}
use Rattle.khe_base.specs.declared.numbers.TimeId.{TimeId}
use Rattle.khe_base.specs.declared.sums.Totals.{Totals}
use Rattle.khe_engine.specs.States.{State}
use Rattle.khe_instance.specs.declared.parts.EventInfo.{EventInfo}
use Rattle.khe_instance.specs.declared.parts.Parts.{Parts}
use Rattle.khe_instance.specs.declared.parts.Place.{Place}
use Rattle.khe_instance.specs.declared.points.Monitor.{Monitor}
use Rattle.khe_instance.specs.declared.points.Point.{Point}
use Rattle.khe_instance.specs.declared.points.Point.TheVariants.{Event, EventResource, Resource}
use Rattle.khe_instance.specs.declared.rules.Constraint.{Constraint}
use Rattle.khe_instance.specs.declared.rules.Kind.{Kind}
use Rattle.khe_instance.specs.declared.rules.Kind.TheVariants as kind
use Rattle.khe_instance.specs.declared.rules.Rule.{Rule}
use Rattle.khe_instance.specs.declared.rules.Rule.TheVariants as rule
use Rattle.khe_told.specs.declared.slots.Slot.{Slot}

-- numbers as names
abbrev pub meet : ℕ → MeetId
meet n = record { 0 = n }

abbrev pub time : ℕ → TimeId
time n = record { 0 = n }

abbrev pub resource : ℕ → ResourceId
resource n = record { 0 = n }

abbrev pub task : ℕ → TaskId
task m = record { meet = meet m; place = 0 }

abbrev pub second_task : ℕ → TaskId
second_task m = record { meet = meet m; place = 1 }

abbrev pub monitor : ℕ → MonitorId
monitor n = record { 0 = n }

abbrev pub group : ℕ → GroupId
group n = record { 0 = n }

abbrev pub at : ℕ → Option TimeId
at n = Some (time n)

abbrev pub has : ℕ → Option ResourceId
has n = Some (resource n)

abbrev pub costing : ℕ → ℕ → Totals
costing hard soft = record { hard = hard; soft = soft }

-- the parts of an instance
abbrev pub place : ℕ → Place
place duration = record { role = Some (codes "R"); rtype = 0; fixed = None; workload = duration }

abbrev pub event : List ℕ → ℕ → ℕ → EventInfo
event id first duration = record {
  id = id;
  duration = duration;
  fixed = None;
  first_meet = first;
  places = place duration ∷ [];
}

abbrev pub constraint : List ℕ → Bool → ℕ → Rule → Constraint
constraint id required weight r = record { id = id; required = required; weight = weight; cost = Linear; rule = r }

abbrev pub watch : Kind → ℕ → Point → Monitor
watch k c point = record { kind = k; constraint = c; point = point }

abbrev pub at_event : ℕ → Point
at_event e = Event (record { 0 = e })

abbrev pub at_place : ℕ → Point
at_place e = EventResource (record { 0 = e }) 0

abbrev pub at_resource : ℕ → Point
at_resource r = Resource (resource r)

-- times for both events, resources for both, no clashes of either resource, and that the second event has the
-- first time, which may cost softly or hard
abbrev pub school_with : Bool → List Constraint → List Monitor → Parts
school_with required more watched = record {
  id = codes "J";
  times = codes "t0" ∷ codes "t1" ∷ codes "t2" ∷ [];
  types = 1;
  resources = record { id = codes "r0"; rtype = 0 } ∷ record { id = codes "r1"; rtype = 0 } ∷ [];
  groups = [];
  events = event (codes "E") 0 3 ∷ event (codes "F") 3 1 ∷ [];
  constraints = constraint (codes "c0") true 2 rule.AssignTime
      ∷ constraint (codes "c1") true 1 (rule.AssignResource (codes "R"))
      ∷ constraint (codes "c2") true 5 rule.AvoidClashes
      ∷ constraint (codes "c3") required 3 (rule.PreferTimes (true ∷ false ∷ false ∷ []) None) ∷ more;
  monitors = watch kind.AssignTime 0 (at_event 0) ∷ watch kind.AssignTime 0 (at_event 1)
      ∷ watch kind.AssignResource 1 (at_place 0) ∷ watch kind.AssignResource 1 (at_place 1)
      ∷ watch kind.AvoidClashes 2 (at_resource 0) ∷ watch kind.AvoidClashes 2 (at_resource 1)
      ∷ watch kind.PreferTimes 3 (at_event 1) ∷ watched;
  unit = 3;
}

abbrev pub school : Parts
school = school_with false [] []

-- where the second event has to have the first time
abbrev pub strict_school : Parts
strict_school = school_with true [] []

-- and where the first resource is to be free at the first time
abbrev pub free_school : ℕ → Parts
free_school weight = school_with false
    (constraint (codes "c4") true weight (rule.AvoidUnavailableTimes (true ∷ false ∷ false ∷ [])) ∷ [])
    (watch kind.AvoidUnavailableTimes 4 (at_resource 0) ∷ [])

-- slots by their number, event, duration, start and what their place is given; and one without a meet
abbrev pub slot : ℕ → ℕ → ℕ → Option TimeId → Option ResourceId → Slot
slot m e duration start given = record {
  meet = meet m;
  event = record { 0 = e };
  span = Some (record { duration = duration; start = start });
  given = given ∷ [];
}

abbrev pub free : ℕ → ℕ → Slot
free m e = record { meet = meet m; event = record { 0 = e }; span = None; given = None ∷ [] }

-- the first event as one meet, and as two of durations 1 and 2
abbrev pub whole : Option TimeId → Option ResourceId → Option TimeId → Option ResourceId → List Slot
whole a r b q = slot 0 0 3 a r ∷ free 1 0 ∷ free 2 0 ∷ slot 3 1 1 b q ∷ []

abbrev pub cut : Option TimeId → Option ResourceId → Option TimeId → Option ResourceId → Option TimeId → List Slot
cut a r b q c = slot 0 0 1 a r ∷ slot 1 0 2 b q ∷ free 2 0 ∷ slot 3 1 1 c None ∷ []

-- the timetable that begins: nothing is assigned
abbrev pub blank : List Slot
blank = whole None None None None

-- states with all monitors attached, and with all but the first; without a group of two numbers, and with these
abbrev pub state : List Slot → State
state slots = record {
  slots = slots;
  grouping = record {
    attached = true ∷ true ∷ true ∷ true ∷ true ∷ true ∷ true ∷ [];
    groups = None ∷ None ∷ [];
  };
}

abbrev pub detached : List Slot → State
detached slots = record {
  slots = slots;
  grouping = record {
    attached = false ∷ true ∷ true ∷ true ∷ true ∷ true ∷ true ∷ [];
    groups = None ∷ None ∷ [];
  };
}

abbrev pub grouped : Option (List MonitorId) → Option (List MonitorId) → State
grouped a b = record {
  slots = blank;
  grouping = record {
    attached = true ∷ true ∷ true ∷ true ∷ true ∷ true ∷ true ∷ [];
    groups = a ∷ b ∷ [];
  };
}
