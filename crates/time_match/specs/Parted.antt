-- What the monitors that prefer some of a task's resources to others cost once it is given one, and what all others do.
use Rattle.std.specs.Prelude.{ℕ, ◌≡◌, Bool, false, not, Some, List, length, map, slice_get}
use Rattle.std.specs.List.{filter, range_with_len}
use Rattle.std.specs.Option.{option_map_or}
use Rattle.khe_base.specs.declared.numbers.ResourceId.{ResourceId}
use Rattle.khe_base.specs.declared.numbers.TaskId.{TaskId}
use Rattle.khe_base.specs.declared.sums.Totals.{Totals}
use Rattle.khe_instance.specs.Costs.{costs_of, totals_among}
use Rattle.khe_instance.specs.declared.parts.Parts.{Parts}
use Rattle.khe_instance.specs.declared.points.Monitor.{Monitor}
use Rattle.khe_solution.specs.Editing.{staffed}
use Rattle.khe_told.specs.Agreement.{deviation_in}
use Rattle.khe_told.specs.declared.slots.Slot.{Slot}
use Rattle.time_match.specs.Alike.{prefers, unites}

-- whether the monitor with a number prefers some of a task's resources, and the numbers of all monitors
abbrev pub prefers_number : Parts → List Slot → TaskId → ℕ → Bool
prefers_number p s t n = option_map_or (prefers p s t) (slice_get p.monitors n) false

abbrev pub all_numbers : Parts → List ℕ
all_numbers p = range_with_len 0 (length p.monitors)

-- the costs of all monitors once a task is given a resource, by which are detached
abbrev pub costs_given : Parts → (ℕ → Bool) → List Slot → TaskId → ResourceId → List ℕ
costs_given p off s t r = costs_of p off (map (deviation_in p (staffed s t (Some r))) p.monitors)

abbrev pub wishes_with : Parts → (ℕ → Bool) → List Slot → TaskId → ResourceId → Totals
wishes_with p off s t r = totals_among p (costs_given p off s t r) (filter (prefers_number p s t) (all_numbers p))

abbrev pub rest_with : Parts → (ℕ → Bool) → List Slot → TaskId → ResourceId → Totals
rest_with p off s t r = totals_among p (costs_given p off s t r)
    (filter (λ n. not (prefers_number p s t n)) (all_numbers p))

-- no monitor is on the resources of a group that has the task's event
abbrev pub IsSingle : Parts → List Slot → TaskId → Type 0
IsSingle p s t = (n : ℕ) (m : Monitor) → slice_get p.monitors n ≡ Some m → unites p s t m ≡ false
