-- A meet with a start runs from then on for its duration. A duty is a task with its meet, and a resource is
-- busy at a time where one of its duties runs then.
use Rattle.std.specs.Prelude.{ℕ, ◌+◌, ◌==◌, Bool, false, ◌&&◌, nat_lt, nat_le, Option, Some, None, List}
use Rattle.std.specs.List.{filter, flat_map, list_any, count_by}
use Rattle.std.specs.Prelude.{map}
use Rattle.khe_base.specs.declared.numbers.TimeId.{TimeId}
use Rattle.khe_base.specs.declared.numbers.ResourceId.{ResourceId}
use Rattle.khe_instance.specs.declared.states.Duty.{Duty}
use Rattle.khe_instance.specs.declared.states.Meet.{Meet}
use Rattle.khe_instance.specs.declared.states.Task.{Task}

-- the tasks of meets, each with its meet
abbrev pub duties : List Meet → List Task → List Duty
duties meets tasks =
    flat_map (λ m. map (λ t. record { meet = m; place = t.task.place; resource = t.resource })
    (filter (λ t. t.task.meet.0 == m.meet.0) tasks)) meets

-- whether an optional number is this one
abbrev pub is_resource : ℕ → Option ResourceId → Bool
is_resource r None = false
is_resource r (Some x) = x.0 == r

-- whether a meet with this start runs at a time: from its start on, for its duration
abbrev pub covers : ℕ → Option TimeId → ℕ → Bool
covers duration None t = false
covers duration (Some s) t = nat_le s.0 t && nat_lt t (s.0 + duration)

-- whether a meet runs at a time
abbrev pub runs : Meet → ℕ → Bool
runs m t = covers m.duration m.start t

-- the meets of an event
abbrev pub meets_of : ℕ → List Meet → List Meet
meets_of e meets = filter (λ m. m.event.0 == e) meets

-- whether an event runs at a time
abbrev pub event_runs : List Meet → ℕ → ℕ → Bool
event_runs meets t e = list_any (λ m. runs m t) (meets_of e meets)

-- how many tasks with a resource run at a time
abbrev pub running_tasks : List Duty → ℕ → ℕ → ℕ
running_tasks ds r t = count_by (λ d. is_resource r d.resource && runs d.meet t) ds

-- whether a resource is busy at a time
abbrev pub busy : List Duty → ℕ → ℕ → Bool
busy ds r t = nat_lt 0 (running_tasks ds r t)
