-- No deviation at a resource is above the greatest one that the limits allow.
use Rattle.std.proofs.Common.{◌≡◌, ℕ, ◌+◌, ◌-◌, ◌*◌, ◌/◌, ◌<◌, ◌≤◌, nat_lt, cond, ◌&&◌, Bool, List, length, get_or, All}
use Rattle.std.proofs.Common.{arith, count_by, sum_by, le_trans}
use Rattle.std.specs.List.{range_with_len}
use Rattle.std.proofs.lemmas.Bool.{cond_both}
use Rattle.std.proofs.lemmas.List.FromFn.{length-range_with_len}
use Rattle.std.proofs.lemmas.List.Sums.{sum_by-le, count_by-le-length}
use Rattle.std.proofs.lemmas.Nat.{mul-le, div_below}
use Rattle.khe_base.specs.Bounds.{count_outside}
use Rattle.khe_base.specs.BoundsLaws.{count_outside_is}
use Rattle.khe_base.specs.Busy.{busy_times, idle_times, is_idle_time}
use Rattle.khe_base.specs.IdSet.{has_member}
use Rattle.khe_base.specs.declared.limits.TheConstants.{GREATEST_DEVIATION, LISTED, NUMBER, TASKS, TIMES}
use Rattle.khe_instance.specs.Deviation.{measured}
use Rattle.khe_instance.specs.ResourceDeviation.{busy_by, used_outside, rounded_up}
use Rattle.khe_instance.specs.WellMade.{IsRule, AreWithinLimits}
use Rattle.khe_instance.specs.declared.parts.Parts.{Parts}
use Rattle.khe_instance.specs.declared.rules.Rule.{Rule}
use Rattle.khe_instance.specs.declared.rules.Rule.TheVariants.{AvoidClashes, AvoidUnavailableTimes, LimitIdleTimes}
use Rattle.khe_instance.specs.declared.rules.Rule.TheVariants.{ClusterBusyTimes, LimitBusyTimes, LimitWorkload}

-- how far a number lies outside bounds is no more than the number or the lower bound
pub outside_small : (n least greatest most : ℕ) → n ≤ most → least ≤ most → count_outside n least greatest ≤ most
outside_small n least greatest most h k =
    let e = count_outside_is n least greatest in
    let l : cond (nat_lt n least) (least - n) (n - greatest) ≤ most =
    cond_both (nat_lt n least) (least - n) (n - greatest) (λ m. m ≤ most) (λ e. omega arith) (λ e. omega arith) in
    omega (arith, e, l)

rounded_small : (parts unit most : ℕ) → 0 < unit → parts ≤ most * unit → rounded_up parts unit ≤ most
rounded_small parts unit most positive h =
    let l : parts + unit - 1 < (most + 1) * unit = omega arith in
    let below : (parts + unit - 1) / unit < most + 1 = div_below (parts + unit - 1) unit (most + 1) positive l in
    omega arith

-- no more numbers of a range pass a test than it has
pub counted : (test : ℕ → Bool) (n : ℕ) → count_by test (range_with_len 0 n) ≤ n
counted test n =
    let l = count_by-le-length test (range_with_len 0 n) in
    let e = length-range_with_len 0 n in
    omega arith

module _ (p : Parts) (counts : ℕ → ℕ) (workload : ℕ) (limits : AreWithinLimits p) (positive : 0 < p.unit)
    (few : (t : ℕ) → counts t ≤ TASKS) (small : workload ≤ GREATEST_DEVIATION * p.unit) where
  clashes-small : measured p AvoidClashes counts workload ≤ GREATEST_DEVIATION
  clashes-small =
      let each : All (λ t. counts t - 1 ≤ TASKS) (range_with_len 0 (length p.times)) =
      λ k d h. (let l = few (get_or (range_with_len 0 (length p.times)) k d) in omega arith)
      in
      let total : sum_by (λ t. counts t - 1) (range_with_len 0 (length p.times)) ≤ length
      (range_with_len 0 (length p.times)) * TASKS =
      sum_by-le (λ t. counts t - 1) TASKS (range_with_len 0 (length p.times)) each
      in
      let e : length (range_with_len 0 (length p.times)) ≡ length p.times = length-range_with_len 0 (length p.times) in
      let l : length p.times ≤ TIMES = limits.times in
      omega arith

  sizes-small : (groups : List (List Bool)) → All (λ g. length g ≡ length p.times) groups
      → All (λ g. length g ≤ TIMES) groups
  sizes-small groups sizes = λ k d h. (let e = sizes k d h in let l : length p.times ≤ TIMES = limits.times in
      omega arith)

  busy-few : (g : List Bool) → busy_times (busy_by counts) g ≤ length g
  busy-few g = counted (λ t. has_member g t && busy_by counts t) (length g)

  idle-few : (g : List Bool) → idle_times (busy_by counts) g ≤ length g
  idle-few g = counted (is_idle_time (has_member g) (busy_by counts) (length g)) (length g)

  unavailable-small : (times : List Bool) → length times ≡ length p.times
      → measured p (AvoidUnavailableTimes times) counts workload ≤ GREATEST_DEVIATION
  unavailable-small times size =
      let l = busy-few times in
      let m : length p.times ≤ TIMES = limits.times in
      omega arith

  idle-small : (groups : List (List Bool)) (least greatest : ℕ) → All (λ g. length g ≡ length p.times) groups
      → length groups ≤ LISTED → least ≤ NUMBER
      → measured p (LimitIdleTimes groups least greatest) counts workload ≤ GREATEST_DEVIATION
  idle-small groups least greatest sizes listed low =
      let each : All (λ g. idle_times (busy_by counts) g ≤ TIMES) groups =
      λ k d h. le_trans (idle-few (get_or groups k d)) (sizes-small groups sizes k d h) in
      let total : sum_by (idle_times (busy_by counts)) groups ≤ length groups * TIMES =
      sum_by-le (idle_times (busy_by counts)) TIMES groups each in
      outside_small (sum_by (idle_times (busy_by counts)) groups) least greatest GREATEST_DEVIATION (omega arith)
      (omega arith)

  cluster-small : (groups : List (List Bool)) (least greatest : ℕ) → length groups ≤ LISTED → least ≤ NUMBER
      → measured p (ClusterBusyTimes groups least greatest) counts workload ≤ GREATEST_DEVIATION
  cluster-small groups least greatest listed low =
      let total = count_by-le-length (λ g. nat_lt 0 (busy_times (busy_by counts) g)) groups in
      outside_small (count_by (λ g. nat_lt 0 (busy_times (busy_by counts) g)) groups) least greatest GREATEST_DEVIATION
      (omega arith) (omega arith)

  limit_busy-small : (groups : List (List Bool)) (least greatest : ℕ) → All (λ g. length g ≡ length p.times) groups
      → length groups ≤ LISTED → least ≤ NUMBER
      → measured p (LimitBusyTimes groups least greatest) counts workload ≤ GREATEST_DEVIATION
  limit_busy-small groups least greatest sizes listed low =
      let excess : List Bool → ℕ = λ g. used_outside (busy_times (busy_by counts) g) least greatest in
      let each : All (λ g. excess g ≤ NUMBER) groups =
      λ k d h. (let n = busy_times (busy_by counts) (get_or groups k d) in
      let l : n ≤ TIMES = le_trans (busy-few (get_or groups k d)) (sizes-small groups sizes k d h) in
      cond_both (nat_lt 0 n) (count_outside n least greatest) 0 (λ m. m ≤ NUMBER)
      (λ e. outside_small n least greatest NUMBER (omega arith) low) (λ e. omega arith))
      in
      let total : sum_by excess groups ≤ length groups * NUMBER = sum_by-le excess NUMBER groups each in
      let result : sum_by excess groups ≤ GREATEST_DEVIATION = omega arith in
      result

  workload-small : (least greatest : ℕ) → least ≤ NUMBER
      → measured p (LimitWorkload least greatest) counts workload ≤ GREATEST_DEVIATION
  workload-small least greatest low =
      let unit = p.unit in
      let least_parts : least * unit ≤ NUMBER * unit = mul-le least unit NUMBER unit low (omega arith) in
      rounded_small (count_outside workload (least * unit) (greatest * unit)) unit GREATEST_DEVIATION positive
      (outside_small workload (least * unit) (greatest * unit) (GREATEST_DEVIATION * unit) small (omega arith))

  pub measured-small : (rule : Rule) → IsRule p rule → measured p rule counts workload ≤ GREATEST_DEVIATION
  measured-small AvoidClashes h = clashes-small
  measured-small (AvoidUnavailableTimes times) h = unavailable-small times h
  measured-small (LimitIdleTimes groups least greatest) h = idle-small groups least greatest h.0.0 h.0.1 h.1.0
  measured-small (ClusterBusyTimes groups least greatest) h = cluster-small groups least greatest h.0.1 h.1.0
  measured-small (LimitBusyTimes groups least greatest) h = limit_busy-small groups least greatest h.0.0 h.0.1 h.1.0
  measured-small (LimitWorkload least greatest) h = workload-small least greatest h.0
  measured-small _ h = omega arith
