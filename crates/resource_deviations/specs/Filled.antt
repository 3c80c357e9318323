-- The tasks of each resource, added up in the rows of a table in which only resources with a task have a row.
use Rattle.std.specs.Prelude.{ℕ, ◌≡◌, ◌+◌, ◌*◌, ◌<◌, ◌≤◌, if◌then◌else◌, ◌&&◌, List, length, slice_index}
use Rattle.khe_base.specs.declared.limits.TheConstants.{NUMBER, TASKS}
use Rattle.khe_instance.specs.ResourceDeviation.{workload_of, workload_in}
use Rattle.khe_instance.specs.Running.{is_resource, runs, running_tasks}
use Rattle.khe_instance.specs.declared.parts.Parts.{Parts}
use Rattle.khe_instance.specs.declared.states.Duty.{Duty}
use Rattle.resource_deviations.specs.Rows.{AreRows}
use Rattle.timetables.specs.Counts.{row_of, count_at}

-- `count` rows of counts, each with a count for each time
pub record HasRows (p : Parts) (count : ℕ) (table : List (List ℕ)) : Type 0 where
  pub all : length table ≡ count
  pub times : (k : ℕ) → k < count → length (row_of table k) ≡ length p.times

-- how often a resource is used at a time, and its workload, as its row has them
abbrev pub counted : List ℕ → List (List ℕ) → ℕ → ℕ → ℕ
counted rows table r t = count_at table (slice_index rows r) t

abbrev pub summed : List ℕ → List ℕ → ℕ → ℕ
summed rows sums r = slice_index sums (slice_index rows r)

-- the counts and the workloads are those of the tasks
pub record IsFilled (p : Parts) (ds : List Duty) (rows : List ℕ) (count : ℕ) (table : List (List ℕ)) (sums : List ℕ)
    : Type 0 where
  pub numbered : AreRows rows count
  pub resources : length rows ≡ length p.resources
  pub rows_of_all : HasRows p count table
  pub sums_of_all : length sums ≡ count
  pub few : length ds ≤ TASKS
  pub counts : (r t : ℕ) → counted rows table r t ≡ running_tasks ds r t
  pub workloads : (r : ℕ) → summed rows sums r ≡ workload_in p.events p.unit ds r
  pub small : (r : ℕ) → summed rows sums r ≤ length ds * (NUMBER * p.unit)

-- one more task is in the counts, and in the workloads
abbrev pub AddsCounts : Duty → List ℕ → List (List ℕ) → List (List ℕ) → Type 0
AddsCounts d rows old new = (r t : ℕ) → counted rows new r t
    ≡ counted rows old r t + (if is_resource r d.resource && runs d.meet t then 1 else 0)

abbrev pub AddsWorkload : Parts → Duty → List ℕ → List ℕ → List ℕ → Type 0
AddsWorkload p d rows old new = (r : ℕ) → summed rows new r
    ≡ summed rows old r + (if is_resource r d.resource then workload_of p.events p.unit d else 0)
