-- One more task is added up.
use Rattle.std.proofs.Common.{◌≡◌, ◌∙◌, sym, ap, ℕ, ◌+◌, ◌*◌, ◌<◌, ◌≤◌, ◌&&◌, cond, Bool, List, length, get_or, take}
use Rattle.std.proofs.Common.{arith, length-take-le}
use Rattle.std.proofs.lemmas.List.Sums.{sum_by_more, count_by-le-length}
use Rattle.std.specs.List.{range_with_len}
use Rattle.std.proofs.lemmas.List.FromFn.{length-range_with_len}
use Rattle.std.proofs.lemmas.Nat.{mul-le}
use Rattle.khe_base.specs.Busy.{is_idle_time}
use Rattle.khe_base.specs.IdSet.{has_member}
use Rattle.khe_base.specs.declared.limits.TheConstants.{GREATEST_DEVIATION, NUMBER, TASKS}
use Rattle.khe_instance.proofs.ResourceBounds.{measured-small}
use Rattle.khe_instance.specs.Deviation.{measured, resource_deviation}
use Rattle.khe_instance.specs.WellMade.{IsRule, AreWithinLimits}
use Rattle.khe_instance.specs.declared.rules.Rule.{Rule}
use Rattle.khe_instance.specs.ResourceDeviation.{workload_of}
use Rattle.khe_instance.specs.Running.{is_resource, runs, running_tasks}
use Rattle.khe_instance.specs.declared.parts.Parts.{Parts}
use Rattle.khe_instance.specs.declared.states.Duty.{Duty}
use Rattle.timetables.specs.Counts.{is_busy, idle_times}
use Rattle.resource_deviations.specs.Filled.{IsFilled, HasRows, AddsCounts, AddsWorkload, counted, summed}

-- no more tasks run than there are
pub counts-few : (p : Parts) (ds : List Duty) (rows : List ℕ) (count : ℕ) (table : List (List ℕ)) (sums : List ℕ)
    → IsFilled p ds rows count table sums → (r t : ℕ) → counted rows table r t ≤ length ds
counts-few p ds rows count table sums f r t =
    let e : counted rows table r t ≡ running_tasks ds r t = f.counts r t in
    let l : running_tasks ds r t ≤ length ds = count_by-le-length
    (λ (d : Duty). is_resource r d.resource && runs d.meet t) ds in
    omega arith

pub filled-more : (p : Parts) (ds : List Duty) (rows : List ℕ) (count : ℕ) (table new : List (List ℕ))
    (sums more : List ℕ) (i : ℕ) (d : Duty)
    → i < length ds → length ds ≤ TASKS → IsFilled p (take i ds) rows count table sums
    → HasRows p count new → AddsCounts (get_or ds i d) rows table new
    → length more ≡ count → AddsWorkload p (get_or ds i d) rows sums more
    → ((r : ℕ) → summed rows more r ≤ summed rows sums r + NUMBER * p.unit)
    → IsFilled p (take (i + 1) ds) rows count new more
filled-more p ds rows count table new sums more i d h few f room counts size worth small = record {
  numbered = f.numbered;
  resources = f.resources;
  rows_of_all = room;
  sums_of_all = size;
  few = let e : length (take (i + 1) ds) ≡ i + 1 = length-take-le (i + 1) ds (omega arith) in omega arith;
  counts = λ r t.
      counts r t ∙ (λ j. f.counts r t j + cond (is_resource r (get_or ds i d).resource && runs (get_or ds i d).meet t) 1
      0)
      ∙ sym (sum_by_more (λ (x : Duty). cond (is_resource r x.resource && runs x.meet t) 1 0) ds i d h);
  workloads = λ r.
      worth r ∙ (λ j. f.workloads r j + cond (is_resource r (get_or ds i d).resource)
      (workload_of p.events p.unit (get_or ds i d)) 0)
      ∙ sym (sum_by_more (λ (x : Duty). cond (is_resource r x.resource) (workload_of p.events p.unit x) 0) ds i d h);
  small = λ r.
      let now : length (take (i + 1) ds) ≡ i + 1 = length-take-le (i + 1) ds (omega arith) in
      let then : length (take i ds) ≡ i = length-take-le i ds (omega arith) in
      let e : length (take (i + 1) ds) * (NUMBER * p.unit) ≡ length (take i ds) * (NUMBER * p.unit) + NUMBER * p.unit =
      ap (λ n. n * (NUMBER * p.unit)) (now ∙ ap (λ n. n + 1) (sym then))
      ∙ (let z : (length (take i ds) + 1) * (NUMBER * p.unit)
      ≡ length (take i ds) * (NUMBER * p.unit) + NUMBER * p.unit = omega arith in z) in
      let a = small r in
      let b = f.small r in
      omega arith;
}

-- what is counted is of the tasks
pub filled-measured : (p : Parts) (ds : List Duty) (rows : List ℕ) (count : ℕ) (table : List (List ℕ)) (sums : List ℕ)
    → IsFilled p ds rows count table sums → (rule : Rule) (r : ℕ)
    → measured p rule (counted rows table r) (summed rows sums r) ≡ resource_deviation p ds rule r
filled-measured p ds rows count table sums f rule r = λ i. measured p rule (λ t. f.counts r t i) (f.workloads r i)

-- so no deviation is above the greatest
pub filled-small : (p : Parts) (ds : List Duty) (rows : List ℕ) (count : ℕ) (table : List (List ℕ)) (sums : List ℕ)
    → IsFilled p ds rows count table sums
    → AreWithinLimits p → 0 < p.unit → (rule : Rule) (r : ℕ) → IsRule p rule
    → measured p rule (counted rows table r) (summed rows sums r) ≤ GREATEST_DEVIATION
filled-small p ds rows count table sums f limits positive rule r h =
    let most : length ds * (NUMBER * p.unit) ≤ TASKS * (NUMBER * p.unit) =
    mul-le (length ds) (NUMBER * p.unit) TASKS (NUMBER * p.unit) f.few (omega arith) in
    measured-small p (counted rows table r) (summed rows sums r) limits positive
    (λ t. let l = counts-few p ds rows count table sums f r t in omega (arith, l, f.few))
    (let l = f.small r in omega (arith, l, most)) rule h

-- no set has more idle times than times
pub idle_few : (row : List ℕ) (set : List Bool) → idle_times row set ≤ length set
idle_few row set =
    let l = count_by-le-length (is_idle_time (has_member set) (is_busy row) (length set))
    (range_with_len 0 (length set)) in
    let e = length-range_with_len 0 (length set) in
    omega arith
