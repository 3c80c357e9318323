-- A workload is a sum of fractions: any other common multiple of the durations in place of the least
-- one, as the number of parts of one, gives the same deviation.
use Rattle.std.proofs.Common.{◌≡◌, ◌∙◌, sym, ap, ap₂, refl, ℕ, zero, suc, ◌+◌, ◌-◌, ◌*◌, ◌/◌, ◌%◌, ◌<◌, ◌≤◌, ◌⊎◌, inl}
use Rattle.std.proofs.Common.{inr, Bool, true, false, cond, nat_lt, Option, Some, None, List, [], ◌∷◌, arith, slice_get}
use Rattle.std.proofs.Common.{mul_assoc, mul-zero, lt-ltb, le-ltb, subst}
use Prim.Native.Nat.{◌∣◌}
use Rattle.std.specs.Option.{option_map_or}
use Rattle.std.proofs.Math.Nat.{div-mul_cancel, mul-add, mul-sub, mul_comm, mul-le-mul_left}
use Rattle.std.proofs.lemmas.Bool.{cases_lt}
use Rattle.std.proofs.lemmas.List.Sums.{sum_by-cons}
use Rattle.std.proofs.lemmas.Nat.{div-add-mod', div-mul-add, mod_below}
use Rattle.std.proofs.lemmas.Option.{get_or_from_slice_get, slice_get_within}
use Rattle.khe_base.specs.Bounds.{count_outside}
use Rattle.khe_base.specs.BoundsLaws.{count_outside_is}
use Rattle.khe_instance.specs.Laws.{IsCommonMultiple}
use Rattle.khe_instance.specs.ResourceDeviation.{limit_workload, rounded_up, workload_in, workload_of}
use Rattle.khe_instance.specs.Running.{is_resource}
use Rattle.khe_instance.specs.declared.parts.EventInfo.{EventInfo}
use Rattle.khe_instance.specs.declared.parts.Place.{Place}
use Rattle.khe_instance.specs.declared.states.Duty.{Duty}
use Rattle.khe_instance.proofs.DutiesLemmas.{All-of_map}

-- what divides a number above 0 is above 0
divisor_positive : (d u : ℕ) → d ∣ u → 0 < u → 0 < d
divisor_positive zero u h p = absurd (omega (arith, div-mul_cancel 0 h))
divisor_positive (suc d) u h p = omega arith

-- a whole quotient grows with its dividend
div-scale : (k u d : ℕ) → d ∣ u → 0 < u → (k * u) / d ≡ k * (u / d)
div-scale k u d h positive =
    let whole : k * u ≡ k * (u / d) * d + 0 = ap (λ n. k * n) (sym (div-mul_cancel d h)) ∙ sym (mul_assoc k (u / d) d)
    ∙ (let z : k * (u / d) * d ≡ k * (u / d) * d + 0 = omega arith in z) in
    ap (λ n. n / d) whole ∙ div-mul-add (k * (u / d)) d 0 (divisor_positive d u h positive)

-- a positive number keeps the order
scale-lt : (k a b : ℕ) → 0 < k → a < b → k * a < k * b
scale-lt zero a b p h = absurd (omega arith)
scale-lt (suc k) a b p h =
    let e : suc k * (a + 1) ≤ suc k * b = mul-le-mul_left (suc k) (omega arith) in
    omega (arith, mul-add (suc k) a 1)

-- how far a number lies outside bounds grows with all three
outside-scale : (k n least greatest : ℕ) → 0 < k
    → count_outside (k * n) (k * least) (k * greatest) ≡ k * count_outside n least greatest
outside-scale k n least greatest positive =
    count_outside_is (k * n) (k * least) (k * greatest) ∙ by (cases_lt n least)
    ∙ ap (λ m. k * m) (sym (count_outside_is n least greatest))
  where
    by : (n < least) ⊎ (least ≤ n)
        → cond (nat_lt (k * n) (k * least)) (k * least - k * n) (k * n - k * greatest)
        ≡ k * cond (nat_lt n least) (least - n) (n - greatest)
    by (inl h) =
        ap (λ b. cond b (k * least - k * n) (k * n - k * greatest))
        (lt-ltb (k * n) (k * least) (scale-lt k n least positive h))
        ∙ sym (mul-sub k least n) ∙ ap (λ b. k * cond b (least - n) (n - greatest)) (sym (lt-ltb n least h))
    by (inr h) =
        ap (λ b. cond b (k * least - k * n) (k * n - k * greatest)) (le-ltb (k * n) (k * least) (mul-le-mul_left k h))
        ∙ sym (mul-sub k n greatest) ∙ ap (λ b. k * cond b (least - n) (n - greatest)) (sym (le-ltb n least h))

-- a quotient that is rounded up stays
rounded_up-scale : (k x u : ℕ) → 0 < k → 0 < u → rounded_up (k * x) (k * u) ≡ rounded_up x u
rounded_up-scale k x u pk pu =
    let top = x + u - 1 in
    let q = top / u in
    let r = top % u in
    let small : r < u = mod_below top u pu in
    let parts : x + u ≡ q * u + (r + 1) = omega (arith, div-add-mod' top u) in
    let scaled : k * x + k * u ≡ q * (k * u) + (k * r + k) =
    sym (mul-add k x u) ∙ ap (λ n. k * n) parts ∙ mul-add k (q * u) (r + 1)
    ∙ ap₂ (λ a b. a + b) (sym (mul_assoc k q u) ∙ ap (λ n. n * u) (mul_comm k q) ∙ mul_assoc q k u)
    (mul-add k r 1 ∙ (let z : k * r + k * 1 ≡ k * r + k = omega arith in z)) in
    let next : r + 1 ≤ u = omega arith in
    let below : k * (r + 1) ≤ k * u = mul-le-mul_left k next in
    let rest : k * r + k - 1 < k * u = omega (arith, mul-add k r 1) in
    let e : k * x + k * u - 1 ≡ q * (k * u) + (k * r + k - 1) = omega arith in
    ap (λ n. n / (k * u)) e ∙ div-mul-add q (k * u) (k * r + k - 1) rest

module _ (events : List EventInfo) (k u : ℕ) (multiple : IsCommonMultiple events u) where
  divides : (e : ℕ) (event : EventInfo) → slice_get events e ≡ Some event → event.duration ∣ u
  divides e event there =
      subst (λ (x : EventInfo). x.duration ∣ u) (get_or_from_slice_get events e event event there)
      (All-of_map (λ d. d ∣ u) (λ (x : EventInfo). x.duration) events multiple.divided e event
      (slice_get_within events e event there))

  worth-scale : (d : Duty) → workload_of events (k * u) d ≡ k * workload_of events u d
  worth-scale d = by_event (slice_get events d.meet.event.0) refl
    where
      by_place : (event : EventInfo) → event.duration ∣ u → (o : Option Place)
          → option_map_or (λ place. place.workload * d.meet.duration * ((k * u) / event.duration)) o 0
          ≡ k * option_map_or (λ place. place.workload * d.meet.duration * (u / event.duration)) o 0
      by_place event h None = sym (mul-zero k)
      by_place event h (Some place) =
          let w = place.workload * d.meet.duration in
          ap (λ n. w * n) (div-scale k u event.duration h multiple.positive) ∙ sym (mul_assoc w k (u / event.duration))
          ∙ ap (λ n. n * (u / event.duration)) (mul_comm w k) ∙ mul_assoc k w (u / event.duration)

      by_event : (o : Option EventInfo) → slice_get events d.meet.event.0 ≡ o
          → option_map_or (λ event. option_map_or (λ place.
          place.workload * d.meet.duration * ((k * u) / event.duration)) (slice_get event.places d.place) 0) o 0
          ≡ k * option_map_or (λ event. option_map_or (λ place. place.workload * d.meet.duration * (u / event.duration))
          (slice_get event.places d.place) 0) o 0
      by_event None there = sym (mul-zero k)
      by_event (Some event) there = by_place event (divides d.meet.event.0 event there) (slice_get event.places d.place)

  workload-scale : (r : ℕ) (ds : List Duty) → workload_in events (k * u) ds r ≡ k * workload_in events u ds r
  workload-scale r [] = sym (mul-zero k)
  workload-scale r (d ∷ ds) =
      sum_by-cons (λ (x : Duty). cond (is_resource r x.resource) (workload_of events (k * u) x) 0) d ds
      ∙ ap₂ (λ a b. a + b) (one (is_resource r d.resource)) (workload-scale r ds)
      ∙ sym (mul-add k (cond (is_resource r d.resource) (workload_of events u d) 0) (workload_in events u ds r))
      ∙ ap (λ n. k * n) (sym (sum_by-cons (λ (x : Duty). cond (is_resource r x.resource) (workload_of events u x) 0) d
      ds))
    where
      one : (b : Bool) → cond b (workload_of events (k * u) d) 0 ≡ k * cond b (workload_of events u d) 0
      one true = worth-scale d
      one false = sym (mul-zero k)

  -- a multiple of a common multiple gives the same
  pub multiple-same : 0 < k → (ds : List Duty) (r least greatest : ℕ)
      → limit_workload (k * u) (workload_in events (k * u) ds r) least greatest
      ≡ limit_workload u (workload_in events u ds r) least greatest
  multiple-same positive ds r least greatest =
      let worth = workload_in events u ds r in
      (λ i. rounded_up (count_outside (workload-scale r ds i) (turned least i) (turned greatest i)) (k * u))
      ∙ ap (λ n. rounded_up n (k * u)) (outside-scale k worth (least * u) (greatest * u) positive)
      ∙ rounded_up-scale k (count_outside worth (least * u) (greatest * u)) u positive multiple.positive
    where
      turned : (b : ℕ) → b * (k * u) ≡ k * (b * u)
      turned b = sym (mul_assoc b k u) ∙ ap (λ n. n * u) (mul_comm b k) ∙ mul_assoc k b u

-- so any two common multiples give the same: both give what their product gives
pub multiples-same : (events : List EventInfo) (u v : ℕ) (ds : List Duty) (r least greatest : ℕ)
    → IsCommonMultiple events u → IsCommonMultiple events v
    → limit_workload u (workload_in events u ds r) least greatest
    ≡ limit_workload v (workload_in events v ds r) least greatest
multiples-same events u v ds r least greatest mu mv =
    sym (multiple-same events v u mu mv.positive ds r least greatest)
    ∙ ap (λ n. limit_workload n (workload_in events n ds r) least greatest) (mul_comm v u)
    ∙ multiple-same events u v mv mu.positive ds r least greatest
