-- A told state as plain lists: its live meets, their tasks, and the tasks with their meets, each in
-- the order of its numbers.
use Rattle.std.specs.Prelude.{ℕ, ◌+◌, Option, List, [], ◌∷◌}
use Rattle.std.specs.List.{flat_map, filter_map}
use Rattle.std.specs.Option.{option_map, option_map_or}
use Rattle.khe_base.specs.declared.numbers.ResourceId.{ResourceId}
use Rattle.khe_instance.specs.declared.states.Duty.{Duty}
use Rattle.khe_instance.specs.declared.states.Meet.{Meet}
use Rattle.khe_instance.specs.declared.states.Task.{Task}
use Rattle.khe_told.specs.declared.slots.Slot.{Slot}

-- the live meet of a slot
abbrev pub meet_in : Slot → Option Meet
meet_in x = option_map (λ y. record { meet = x.meet; event = x.event; duration = y.duration; start = y.start }) x.span

abbrev pub meets_in : List Slot → List Meet
meets_in s = filter_map meet_in s

-- the tasks of a meet, from this place on, by what they are given
abbrev pub tasks_with : Meet → ℕ → List (Option ResourceId) → List Task
tasks_with m place [] = []
tasks_with m place (r ∷ rs) = record { task = record { meet = m.meet; place = place }; resource = r } ∷ tasks_with m
    (place + 1) rs

abbrev pub tasks_of : Slot → List Task
tasks_of x = option_map_or (λ m. tasks_with m 0 x.given) (meet_in x) []

abbrev pub tasks_in : List Slot → List Task
tasks_in s = flat_map tasks_of s

-- the same with their meets
abbrev pub duties_with : Meet → ℕ → List (Option ResourceId) → List Duty
duties_with m place [] = []
duties_with m place (r ∷ rs) = record { meet = m; place = place; resource = r } ∷ duties_with m (place + 1) rs

abbrev pub duties_of : Slot → List Duty
duties_of x = option_map_or (λ m. duties_with m 0 x.given) (meet_in x) []

abbrev pub duties_in : List Slot → List Duty
duties_in s = flat_map duties_of s
