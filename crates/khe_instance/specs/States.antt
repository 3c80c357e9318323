-- The states of an instance: meets in slots of their events, and for each meet one task at each place. A state is
-- told while the meets of no event last longer than the event, as while a solver works. It is valid where besides
-- every event is placed whole and what is preassigned is kept.
use Rattle.std.specs.Prelude.{ℕ, ◌≡◌, ◌+◌, ◌<◌, ◌≤◌, Option, Some, List, [], ◌∷◌, map, length, All, AllPairs, ◌≢◌}
use Rattle.std.specs.Prelude.{IfSome, slice_get}
use Rattle.std.specs.List.{sum_by, flat_map}
use Rattle.std.specs.List.Sorted.{IsStrictlyIncreasing}
use Rattle.khe_base.specs.declared.limits.TheConstants.{GROUPS, TASKS}
use Rattle.khe_base.specs.declared.numbers.TaskId.{TaskId}
use Rattle.khe_instance.specs.Lookups.{place_at, places_at}
use Rattle.khe_instance.specs.Running.{duties, meets_of}
use Rattle.khe_instance.specs.declared.states.Duty.{Duty}
use Rattle.khe_instance.specs.Slots.{HasSlot, slot_tasks}
use Rattle.khe_instance.specs.WellMade.{HasType}
use Rattle.khe_instance.specs.declared.parts.EventInfo.{EventInfo}
use Rattle.khe_instance.specs.declared.parts.Parts.{Parts}
use Rattle.khe_instance.specs.declared.parts.Place.{Place}
use Rattle.khe_instance.specs.declared.states.Group.{Group}
use Rattle.khe_instance.specs.declared.states.Meet.{Meet}
use Rattle.khe_instance.specs.declared.states.Plain.{Plain}
use Rattle.khe_instance.specs.declared.states.Task.{Task}

-- a meet stands in a slot of its event, and ends with the last time or before
pub record IsMeet (p : Parts) (m : Meet) : Type 0 where
  pub slot : HasSlot p.events m.event.0 m.meet.0
  pub duration : 1 ≤ m.duration
  pub ends : IfSome m.start (λ s. s.0 + m.duration ≤ length p.times)

-- the tasks of a meet: one for each place of its event
abbrev pub tasks_of : Parts → Meet → List TaskId
tasks_of p m = slot_tasks m.meet.0 (places_at p.events m.event.0)

-- the place that a task with its meet fills
abbrev pub place_of : Parts → Duty → Option Place
place_of p d = place_at p.events d.meet.event.0 d.place

-- a given resource has the type of its place
abbrev pub IsGiven : Parts → Duty → Type 0
IsGiven p d = IfSome (place_of p d) (λ place. IfSome d.resource (HasType p place.rtype))

-- the meets of each event last no longer together than the event does, and each place of each meet
-- has one task and no other; which monitors are detached, and the groups, play no part in this
pub record IsTold (p : Parts) (ms : List Meet) (ts : List Task) : Type 0 where
  pub meets : All (IsMeet p) ms
  pub ascending : IsStrictlyIncreasing (map (λ m. m.meet.0) ms)
  pub durations : (e : ℕ) (event : EventInfo) → slice_get p.events e ≡ Some event
      → sum_by (λ m. m.duration) (meets_of e ms) ≤ event.duration
  pub tasks : map (λ t. t.task) ts ≡ flat_map (tasks_of p) ms
  pub given : All (IsGiven p) (duties ms ts)

-- the meets are those of a state, and the duties its tasks with their meets
pub record AreOfState (p : Parts) (ms : List Meet) (ds : List Duty) : Type 0 where
  pub tasks : List Task
  pub told : IsTold p ms tasks
  pub same : ds ≡ duties ms tasks

-- a task with its meet runs within the times, its resource is one of the instance, and its
-- meet is no longer than the event
pub record IsDuty (p : Parts) (d : Duty) : Type 0 where
  pub ends : IfSome d.meet.start (λ s. s.0 + d.meet.duration ≤ length p.times)
  pub given : IfSome d.resource (λ r. r.0 < length p.resources)
  pub event : EventInfo
  pub there : slice_get p.events d.meet.event.0 ≡ Some event
  pub part : d.meet.duration ≤ event.duration

-- so are all of them, and there are no more than an instance may have
pub record AreDuties (p : Parts) (ds : List Duty) : Type 0 where
  pub each : All (IsDuty p) ds
  pub few : length ds ≤ TASKS

-- the meets of an event last as long as it does, and one with a preassigned time has one meet, which
-- starts then
pub record IsPlaced (ms : List Meet) (e : ℕ) (event : EventInfo) : Type 0 where
  pub whole : sum_by (λ m. m.duration) (meets_of e ms) ≡ event.duration
  pub fixed : IfSome event.fixed (λ t. map (λ m. m.start) (meets_of e ms) ≡ Some t ∷ [])

-- a place with a preassigned resource has it
abbrev pub IsKept : Parts → Duty → Type 0
IsKept p d = IfSome (place_of p d) (λ place. IfSome place.fixed (λ r. d.resource ≡ Some r))

-- a group has a number below the greatest, and its children are monitors, each once
pub record IsGroup (p : Parts) (g : Group) : Type 0 where
  pub number : g.group.0 < GROUPS
  pub children : All (λ m. m.0 < length p.monitors) g.children
  pub once : AllPairs (λ x y. x ≢ y) g.children

-- a timetable that stands whole
pub record IsValid (p : Parts) (s : Plain) : Type 0 where
  pub told : IsTold p s.meets s.tasks
  pub events : (e : ℕ) (event : EventInfo) → slice_get p.events e ≡ Some event → IsPlaced s.meets e event
  pub kept : All (IsKept p) (duties s.meets s.tasks)
  pub detached : All (λ m. m.0 < length p.monitors) s.detached
  pub detached_once : IsStrictlyIncreasing (map (λ m. m.0) s.detached)
  pub groups : All (IsGroup p) s.groups
  pub groups_once : IsStrictlyIncreasing (map (λ g. g.group.0) s.groups)
