-- Small meets, tasks and sets for examples.
use Rattle.std.specs.Prelude.{ℕ, Bool, true, Some, None, List, [], ◌∷◌, replicate, codes}
use Rattle.khe_instance.specs.declared.states.Duty.{Duty}
use Rattle.khe_instance.specs.declared.parts.EventInfo.{EventInfo}
use Rattle.khe_instance.specs.declared.rules.Spread.{Spread}
use Rattle.khe_instance.specs.declared.states.Meet.{Meet}

-- a meet by its number, its event, its duration and its start
abbrev pub meet : ℕ → ℕ → ℕ → ℕ → Meet
meet number e duration start = record {
  meet = record { 0 = number };
  event = record { 0 = e };
  duration = duration;
  start = Some (record { 0 = start });
}

-- a meet without a start
abbrev pub unplaced : ℕ → ℕ → ℕ → Meet
unplaced number e duration = record {
  meet = record { 0 = number };
  event = record { 0 = e };
  duration = duration;
  start = None;
}

-- the task of a meet at the first place of its event, with a resource
abbrev pub given : ℕ → Meet → Duty
given r m = record { meet = m; place = 0; resource = Some (record { 0 = r }) }

-- the same with the first resource
abbrev pub task : Meet → Duty
task m = given 0 m

-- the same without one
abbrev pub free : Meet → Duty
free m = record { meet = m; place = 0; resource = None }

-- the set of all of five times, and of both of two events
abbrev pub day : List Bool
day = replicate 5 true

abbrev pub two : List Bool
two = replicate 2 true

-- a time group with bounds
abbrev pub spread : List Bool → ℕ → ℕ → Spread
spread group least greatest = record { group = group; min = least; max = greatest }

-- an event of duration 3 with a teacher's place of workload 4
abbrev pub lecture : EventInfo
lecture = record {
  id = codes "lecture";
  duration = 3;
  fixed = None;
  first_meet = 0;
  places = record { role = Some (codes "T"); rtype = 0; fixed = None; workload = 4 } ∷ [];
}
