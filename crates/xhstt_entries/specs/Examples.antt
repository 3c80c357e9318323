-- A small school, and a timetable of it.
use Rattle.std.specs.Prelude.{ℕ, Option, Some, None, List, [], ◌∷◌, codes}
use Rattle.khe_base.specs.declared.numbers.ResourceId.{ResourceId}
use Rattle.khe_base.specs.declared.numbers.TimeId.{TimeId}
use Rattle.khe_instance.specs.declared.parts.EventInfo.{EventInfo}
use Rattle.khe_instance.specs.declared.parts.Parts.{Parts}
use Rattle.khe_instance.specs.declared.parts.Place.{Place}
use Rattle.khe_instance.specs.declared.parts.ResourceInfo.{ResourceInfo}
use Rattle.khe_instance.specs.declared.states.Meet.{Meet}
use Rattle.khe_instance.specs.declared.states.Plain.{Plain}
use Rattle.khe_instance.specs.declared.states.Task.{Task}
use Rattle.xhstt_shape.specs.declared.records.RawEntry.{RawEntry}
use Rattle.xhstt_shape.specs.declared.records.RawGiven.{RawGiven}
use Rattle.xhstt_shape.specs.declared.records.RawSolution.{RawSolution}
use Rattle.xhstt_entries.specs.Spelled.{role_named, to}

abbrev pub resource : List ℕ → ResourceInfo
resource id = record { id = id; rtype = 0 }

abbrev pub place : Option (List ℕ) → Option ResourceId → Place
place role fixed = record { role = role; rtype = 0; fixed = fixed; workload = 1 }

abbrev pub teacher : Place
teacher = place (Some (codes "teacher")) None

-- a lesson of duration 3 with a place for a teacher, and a class that is preassigned; and a talk of
-- duration 1 with a place for a teacher
abbrev pub lesson : EventInfo
lesson = record {
  id = codes "lesson";
  duration = 3;
  fixed = None;
  first_meet = 0;
  places =
      teacher ∷ place None (Some (record { 0 = 1 })) ∷ [];
}

abbrev pub talk : EventInfo
talk = record { id = codes "talk"; duration = 1; fixed = None; first_meet = 3; places = teacher ∷ [] }

abbrev pub school : Parts
school = record {
  id = codes "school";
  times = codes "first" ∷ codes "second" ∷ codes "third" ∷ [];
  types = 1;
  resources = resource (codes "smith") ∷ resource (codes "class") ∷ [];
  groups = [];
  events = lesson ∷ talk ∷ [];
  constraints = [];
  monitors = [];
  unit = 3;
}

abbrev pub meet : ℕ → ℕ → ℕ → Option TimeId → Meet
meet slot e duration start = record {
  meet = record { 0 = slot };
  event = record { 0 = e };
  duration = duration;
  start =
      start;
}

abbrev pub task : ℕ → ℕ → Option ResourceId → Task
task slot place resource = record { task = record { meet = record { 0 = slot }; place = place }; resource = resource }

-- the lesson in two parts, the first of them at the second time with a teacher; and the talk, with neither
-- a start nor a teacher
abbrev pub timetable : Plain
timetable = record {
  meets = meet 0 0 2 (Some (record { 0 = 1 })) ∷ meet 1 0 1 None ∷ meet 3 1 1 None ∷ [];
  tasks = task 0 0 (Some (record { 0 = 0 })) ∷ task 0 1 (Some (record { 0 = 1 })) ∷ task 1 0 None ∷ task 1 1
      (Some (record { 0 = 1 })) ∷ task 3 0 None ∷ [];
  detached = [];
  groups = [];
}

-- the same, but that the second part of the lesson has its last slot
abbrev pub with_gap : Plain
with_gap = record {
  meets = meet 0 0 2 (Some (record { 0 = 1 })) ∷ meet 2 0 1 None ∷ meet 3 1 1 None ∷ [];
  tasks = task 0 0 (Some (record { 0 = 0 })) ∷ task 0 1 (Some (record { 0 = 1 })) ∷ task 2 0 None ∷ task 2 1
      (Some (record { 0 = 1 })) ∷ task 3 0 None ∷ [];
  detached = [];
  groups = [];
}

-- a solution that says nothing yet
abbrev pub empty : RawSolution
empty = record { reference = to (codes "school"); description = None; running_time = None; events = [] }

-- an entry of an event with its duration, its time and what is given
abbrev pub entry : List ℕ → ℕ → Option (List ℕ) → List RawGiven → RawEntry
entry id duration None given = record { reference = to id; duration = Some duration; time = None; resources = given }
entry id duration (Some time) given = record {
  reference = to id;
  duration = Some duration;
  time = Some (to time);
  resources = given;
}

abbrev pub for_role : List ℕ → List ℕ → RawGiven
for_role role id = record { reference = to id; role = Some (role_named role) }
