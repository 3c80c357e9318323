-- A small school, and entries for it.
use Rattle.std.specs.Prelude.{ℕ, Option, Some, None, List, [], ◌∷◌, Result, Ok, Err, codes}
use Rattle.khe_base.specs.declared.numbers.ResourceId.{ResourceId}
use Rattle.khe_base.specs.declared.numbers.TimeId.{TimeId}
use Rattle.khe_instance.specs.declared.parts.EventInfo.{EventInfo}
use Rattle.khe_instance.specs.declared.parts.Parts.{Parts}
use Rattle.khe_instance.specs.declared.parts.Place.{Place}
use Rattle.khe_instance.specs.declared.parts.ResourceInfo.{ResourceInfo}
use Rattle.khe_instance.specs.declared.states.Meet.{Meet}
use Rattle.khe_instance.specs.declared.states.Plain.{Plain}
use Rattle.khe_instance.specs.declared.states.Task.{Task}
use Rattle.xhstt_completion.specs.Completed.{completed}
use Rattle.xhstt_completion.specs.declared.faults.Cause.{Cause}
use Rattle.xhstt_shape.specs.declared.records.RawEntry.{RawEntry}
use Rattle.xhstt_shape.specs.declared.records.RawGiven.{RawGiven}
use Rattle.xhstt_shape.specs.declared.records.RawSolution.{RawSolution}
use Rattle.xhstt_shape.specs.declared.records.Ref.{Ref}

-- ---- the school

abbrev pub resource : List ℕ → ℕ → ResourceInfo
resource id rtype = record { id = id; rtype = rtype }

abbrev pub place : Option (List ℕ) → Option ResourceId → Place
place role fixed = record { role = role; rtype = 0; fixed = fixed; workload = 1 }

-- a course of duration 2 with a place for a teacher, and a class that is preassigned
abbrev pub course : EventInfo
course = record {
  id = codes "course";
  duration = 2;
  fixed = None;
  first_meet = 0;
  places =
      place (Some (codes "teacher")) None ∷ place None (Some (record { 0 = 1 })) ∷ [];
}

-- an assembly of duration 2 at the second time, with a preassigned teacher
abbrev pub assembly : EventInfo
assembly = record {
  id = codes "assembly";
  duration = 2;
  fixed = Some (record { 0 = 1 });
  first_meet = 2;
  places =
      place (Some (codes "teacher")) (Some (record { 0 = 0 })) ∷ [];
}

-- three times, two people, a room, and the two events
abbrev pub school : Parts
school = record {
  id = codes "school";
  times = codes "first" ∷ codes "second" ∷ codes "third" ∷ [];
  types = 2;
  resources = resource (codes "smith") 0 ∷ resource (codes "class") 0 ∷ resource (codes "room") 1 ∷ [];
  groups = [];
  events = course ∷ assembly ∷ [];
  constraints = [];
  monitors = [];
  unit = 2;
}

-- ---- entries

abbrev pub ref : List ℕ → Ref
ref id = record { id = id; at = 0 }

-- a resource for a role, and one without a role
abbrev pub for_role : List ℕ → List ℕ → RawGiven
for_role role id = record { reference = ref id; role = Some (record { text = role; at = 0 }) }

abbrev pub for_no_role : List ℕ → RawGiven
for_no_role id = record { reference = ref id; role = None }

-- an entry with a duration, with a time, and with resources
abbrev pub lasting : List ℕ → ℕ → RawEntry
lasting id duration = record { reference = ref id; duration = Some duration; time = None; resources = [] }

abbrev pub lasting_at : List ℕ → ℕ → List ℕ → RawEntry
lasting_at id duration time = record {
  reference = ref id;
  duration = Some duration;
  time = Some (ref time);
  resources =
      [];
}

abbrev pub giving : RawEntry → List RawGiven → RawEntry
giving entry given = record entry { resources = given }

-- an entry that says nothing but its event
abbrev pub whole : List ℕ → RawEntry
whole id = record { reference = ref id; duration = None; time = None; resources = [] }

-- what entries say of the school
abbrev pub said : List RawEntry → Result Plain Cause
said entries = completed school (record {
  reference = ref (codes "school");
  description = None;
  running_time = None;
  events = entries;
})

abbrev pub at_entry : ℕ → ℕ → Result Plain Cause
at_entry entry cause = Err (record { cause = cause; entry = entry })

-- ---- states

abbrev pub meet : ℕ → ℕ → ℕ → Option TimeId → Meet
meet slot e duration start = record {
  meet = record { 0 = slot };
  event = record { 0 = e };
  duration = duration;
  start =
      start;
}

abbrev pub task : ℕ → ℕ → Option ResourceId → Task
task slot place resource = record { task = record { meet = record { 0 = slot }; place = place }; resource = resource }

abbrev pub state : List Meet → List Task → Result Plain Cause
state meets tasks = Ok (record { meets = meets; tasks = tasks; detached = []; groups = [] })

-- ---- a school of one lesson

abbrev pub lesson : Parts
lesson = record {
  id = codes "i";
  times = codes "t" ∷ [];
  types = 1;
  resources = resource (codes "r") 0 ∷ [];
  groups = [];
  events = record {
    id = codes "e";
    duration = 1;
    fixed = None;
    first_meet = 0;
    places =
        place (Some (codes "T")) None ∷ [];
  } ∷ [];
  constraints = [];
  monitors = [];
  unit = 1;
}

-- a solution of it, with an entry that may give a duration
abbrev pub lesson_solution : Option ℕ → RawSolution
lesson_solution duration = record {
  reference = ref (codes "i");
  description = None;
  running_time = None;
  events = record {
    reference = ref (codes "e");
    duration = duration;
    time = Some (ref (codes "t"));
    resources =
        for_role (codes "T") (codes "r") ∷ [];
  } ∷ [];
}
