-- The meets and tasks that the moves of a monitor are of, in the order of their slots, each once.
use Rattle.std.specs.Prelude.{ℕ, ◌*◌, ◌==◌, Bool, false, ◌&&◌, Option, None, List, length, slice_index_or}
use Rattle.std.specs.List.{sum_by, list_any}
use Rattle.khe_base.specs.declared.numbers.ResourceId.{ResourceId}
use Rattle.khe_base.specs.declared.numbers.TaskId.{TaskId}
use Rattle.khe_instance.specs.Lookups.{place_at, role_at, is_role}
use Rattle.khe_instance.specs.Slots.{all_tasks}
use Rattle.khe_instance.specs.Watching.{names_event}
use Rattle.khe_instance.specs.declared.parts.Parts.{Parts}
use Rattle.khe_instance.specs.declared.points.Point.{Point}
use Rattle.khe_instance.specs.declared.points.Point.TheVariants.{Event, EventResource, EventGroup, EventPair as Pair}
use Rattle.khe_instance.specs.declared.points.Point.TheVariants.{Resource}
use Rattle.khe_instance.specs.declared.rules.Rule.{Rule}
use Rattle.khe_instance.specs.declared.rules.Rule.TheVariants.{AvoidSplitAssignments}
use Rattle.khe_told.specs.Slots.{slot_at, is_live, given_at}
use Rattle.khe_told.specs.declared.slots.Slot.{Slot}
use Rattle.khe_solution.specs.NextTask.{has_task}
use Rattle.khe_solution.specs.Reading.{has_place, has_type, is_resource}
use Rattle.repair_moves.specs.declared.parts.Part.{Part}
use Rattle.repair_moves.specs.declared.parts.Part.TheVariants.{TimeMoves, SwapMoves, Cuts, Joins, TaskMoves, TradeMoves}
use Rattle.repair_moves.specs.declared.parts.Part.TheVariants.{Gives}

-- how many meet slots and how many task slots an instance has
abbrev pub meet_slots : Parts → ℕ
meet_slots p = sum_by (λ e. e.duration) p.events

abbrev pub task_slots : Parts → ℕ
task_slots p = sum_by (λ e. e.duration * length e.places) p.events

-- what stands for a task beyond the last
abbrev pub no_task : TaskId
no_task = record { meet = record { 0 = 0 }; place = 0 }

-- the task of a task slot
unfoldable pub task_at : Parts → ℕ → TaskId
task_at p k = slice_index_or (all_tasks p.events) k no_task

-- whether a rule is on the places of a role
abbrev pub wants_role : Rule → Option (List ℕ) → Bool
wants_role (AvoidSplitAssignments role) other = is_role role other
wants_role _ other = false

-- a live meet is a monitor's where its event is one that the point names, or where one of its tasks
-- has the point's resource
abbrev pub is_meet_of : Parts → Rule → Point → Slot → Bool
is_meet_of p rule (Resource r) x = list_any (is_resource r.0) x.given
is_meet_of p rule point x = names_event p rule point x.event.0

unfoldable pub is_meet_at : Parts → List Slot → Rule → Point → ℕ → Bool
is_meet_at p s rule point n = is_live (slot_at s n) && is_meet_of p rule point (slot_at s n)

-- a task is a monitor's where it is one of the point's event resource, where it has the rule's role in
-- an event of the point's group, or where it has the point's resource
abbrev pub is_task_of : Parts → Rule → Point → ℕ → ℕ → Option ResourceId → Bool
is_task_of p rule (EventResource own place) e k given = (own.0 == e) && (place == k)
is_task_of p rule (EventGroup g) e k given = names_event p rule (EventGroup g) e && wants_role rule
    (role_at p.events e k)
is_task_of p rule (Resource r) e k given = is_resource r.0 given
is_task_of p rule (Event own) e k given = false
is_task_of p rule (Pair q) e k given = false

abbrev pub is_task_in : Parts → List Slot → Rule → Point → TaskId → Bool
is_task_in p s rule point t = let x = slot_at s t.meet.0 in
    has_place x t.place && is_task_of p rule point x.event.0 t.place (given_at x t.place)

unfoldable pub is_task_at : Parts → List Slot → Rule → Point → ℕ → Bool
is_task_at p s rule point n = is_task_in p s rule point (task_at p n)

-- a task may be given the point's resource where that has its type
abbrev pub may_be_given : Parts → Point → Slot → ℕ → Bool
may_be_given p (Resource r) x k = has_type p r.0 (place_at p.events x.event.0 k)
may_be_given p _ x k = false

-- whether the meet of a task slot is live
unfoldable pub is_live_at : Parts → List Slot → ℕ → Bool
is_live_at p s n = is_live (slot_at s (task_at p n).meet.0)

unfoldable pub is_free_at : Parts → List Slot → ℕ → Bool
is_free_at p s n = has_task s None (task_at p n)

unfoldable pub is_open_at : Parts → List Slot → Point → ℕ → Bool
is_open_at p s point n = is_free_at p s n && may_be_given p point (slot_at s (task_at p n).meet.0) (task_at p n).place

-- whether a part is taken for the meet or the task of a slot, and how many slots there are to look at
unfoldable pub is_item : Parts → List Slot → Rule → Point → Part → ℕ → Bool
is_item p s rule point TimeMoves n = is_meet_at p s rule point n
is_item p s rule point SwapMoves n = is_meet_at p s rule point n
is_item p s rule point Cuts n = is_meet_at p s rule point n
is_item p s rule point Joins n = is_meet_at p s rule point n
is_item p s rule point TaskMoves n = is_task_at p s rule point n
is_item p s rule point TradeMoves n = is_task_at p s rule point n
is_item p s rule point Gives n = is_open_at p s point n

unfoldable pub item_slots : Parts → Part → ℕ
item_slots p TimeMoves = meet_slots p
item_slots p SwapMoves = meet_slots p
item_slots p Cuts = meet_slots p
item_slots p Joins = meet_slots p
item_slots p TaskMoves = task_slots p
item_slots p TradeMoves = task_slots p
item_slots p Gives = task_slots p
