-- The clashes of a resource after effects, by the busy times before and after.
use Rattle.std.proofs.Common.{ℕ, ◌≡◌, ◌≤◌, ◌<◌, ◌+◌, ◌-◌, ◌*◌, ◌%◌, ◌^◌, ◌∙◌, ◌⊎◌, inl, inr, zero, suc}
use Rattle.std.proofs.Common.{cond, refl, sym, ap, subst, arith, nat_lt, sum_by, lt-ltb, count_ones, mod-eq_of_lt}
use Rattle.std.proofs.Common.{List, [], ◌∷◌, length, slice_index}
use Rattle.std.specs.List.{range_with_len}
use Rattle.std.proofs.Math.Nat.{mul-add}
use Rattle.std.proofs.lemmas.Bool.{cases_lt}
use Rattle.khe_base.specs.Bits.{has_bit}
use Rattle.khe_base.specs.Busy.{count_below}
use Rattle.khe_instance.proofs.SumsLemmas.{sum_by_range_more}
use Rattle.timetables.proofs.CountsLemmas.{count_below-stays, count_ones-bits}
use Rattle.resource_monitors.specs.Cells.{in_run}
use Rattle.resource_monitors.specs.Shifts.{CanShift, after_both, after_one, gained_at, lost_at}
use Rattle.resource_monitors.specs.declared.runs.Run.{Run}
use Rattle.resource_monitors.specs.declared.shifts.Shifts.{Shifts}
use Rattle.resource_monitors.proofs.CutLaws.{in_not_after, in_not_before, in_yes}
use Rattle.resource_monitors.proofs.ShiftLaws.{off_shift}

-- a sum over the first times
abbrev pub over : (ℕ → ℕ) → ℕ → ℕ
over f n = sum_by f (range_with_len 0 n)

over_more : (f : ℕ → ℕ) (n : ℕ) → over f (suc n) ≡ over f n + f n
over_more f n = ap (over f) (let e : suc n ≡ n + 1 = omega arith in e) ∙ sum_by_range_more f n

-- counts beyond one, and busy times, make all counts
pub beyond_and_busy : (c : ℕ → ℕ) (n : ℕ) → over (λ t. c t - 1) n + count_below (λ t. nat_lt 0 (c t)) n ≡ over c n
beyond_and_busy c zero = refl
beyond_and_busy c (suc n) =
    let a = beyond_and_busy c n in
    let b = over_more (λ t. c t - 1) n in
    let d : count_below (λ t. nat_lt 0 (c t)) (suc n)
    ≡ count_below (λ t. nat_lt 0 (c t)) n + cond {A = ℕ} (nat_lt 0 (c n)) 1 0 =
    over_more (λ t. cond {A = ℕ} (nat_lt 0 (c t)) 1 0) n in
    let e = over_more c n in
    let f = one (c n) in
    omega (arith, a, b, d, e, f)
  where
    one : (k : ℕ) → k - 1 + cond {A = ℕ} (nat_lt 0 k) 1 0 ≡ k
    one zero = refl
    one (suc k) = let b : cond {A = ℕ} (nat_lt 0 (suc k)) 1 0 ≡ 1 =
        ap (λ x. cond {A = ℕ} x 1 0) (lt-ltb 0 (suc k) (omega arith)) in omega (arith, b)

nil : (x : ℕ) → x * 0 ≡ 0
nil x = omega arith

-- an amount at each time of a run
pub over_run : (x start end : ℕ) → start ≤ end → (n : ℕ)
    → ((n ≤ start) × (over (λ t. cond (in_run start end t) x 0) n ≡ 0))
    ⊎ (((start ≤ n) × (n ≤ end) × (over (λ t. cond (in_run start end t) x 0) n ≡ x * (n - start)))
    ⊎ ((end ≤ n) × (over (λ t. cond (in_run start end t) x 0) n ≡ x * (end - start))))
over_run x start end l zero = inl (omega arith, refl)
over_run x start end l (suc n) = by (over_run x start end l n) (cases_lt n start) (cases_lt n end)
  where
    f : ℕ → ℕ
    f t = cond (in_run start end t) x 0

    more : over f (suc n) ≡ over f n + f n
    more = over_more f n

    grown : (a : ℕ) → start ≤ a → x * (a + 1 - start) ≡ x * (a - start) + x
    grown a h = ap (λ k. x * k) (let e : a + 1 - start ≡ a - start + 1 = omega (arith, h) in e)
        ∙ mul-add x (a - start) 1 ∙ (let e : x * (a - start) + x * 1 ≡ x * (a - start) + x = omega arith in e)

    by : ((n ≤ start) × (over f n ≡ 0)) ⊎ (((start ≤ n) × (n ≤ end) × (over f n ≡ x * (n - start)))
        ⊎ ((end ≤ n) × (over f n ≡ x * (end - start)))) → (n < start) ⊎ (start ≤ n) → (n < end) ⊎ (end ≤ n)
        → ((suc n ≤ start) × (over f (suc n) ≡ 0)) ⊎ (((start ≤ suc n) × (suc n ≤ end)
        × (over f (suc n) ≡ x * (suc n - start))) ⊎ ((end ≤ suc n) × (over f (suc n) ≡ x * (end - start))))
    by (inl (a, e)) (inl b) _ = inl (
      omega (arith, b),
      let g : f n ≡ 0 = ap (λ d. cond d x 0) (in_not_before start end n b) in
          let m = more in omega (arith, m, e, g),
    )
    by (inl (a, e)) (inr b) (inl d) = inr (inl (
      omega (arith, b),
      omega (arith, d),
      let g : f n ≡ x = ap (λ d. cond d x 0) (in_yes start end n b d) in
          let m = more in
          let h : x * (suc n - start) ≡ x = ap (λ k. x * k) (let e : suc n - start ≡ 1 = omega (arith, a, b) in e)
          ∙ (let e : x * 1 ≡ x = omega arith in e) in
          omega (arith, m, e, g, h),
    ))
    by (inl (a, e)) (inr b) (inr d) = inr (inr (
      omega (arith, d),
      let g : f n ≡ 0 = ap (λ d. cond d x 0) (in_not_after start end n d) in
          let m = more in
          let h : x * (end - start) ≡ 0 = ap (λ k. x * k) (let e : end - start ≡ 0 = omega (arith, a, d) in e)
          ∙ nil x in
          omega (arith, m, e, g, h),
    ))
    by (inr (inl (a, b, e))) _ (inl d) = inr (inl (
      omega (arith, a),
      omega (arith, d),
      let g : f n ≡ x = ap (λ d. cond d x 0) (in_yes start end n a d) in
          let m = more in
          let h = grown n a in
          let k : x * (suc n - start) ≡ x * (n + 1 - start) = ap (λ k. x * (k - start))
          (let e : suc n ≡ n + 1 = omega arith in e) in
          omega (arith, m, e, g, h, k),
    ))
    by (inr (inl (a, b, e))) _ (inr d) = inr (inr (
      omega (arith, d),
      let g : f n ≡ 0 = ap (λ d. cond d x 0) (in_not_after start end n d) in
          let m = more in
          let h : x * (n - start) ≡ x * (end - start) = ap (λ k. x * (k - start))
          (let e : n ≡ end = omega (arith, b, d) in e) in
          omega (arith, m, e, g, h),
    ))
    by (inr (inr (a, e))) _ _ = inr (inr (
      omega (arith, a),
      let g : f n ≡ 0 = ap (λ d. cond d x 0) (in_not_after start end n a) in
          let m = more in
          omega (arith, m, e, g),
    ))

pub run_total : (x : ℕ) (run : Run) (n : ℕ) → run.start ≤ run.end → run.end ≤ n
    → over (λ t. cond (in_run run.start run.end t) x 0) n ≡ x * (run.end - run.start)
run_total x run n l m = by (over_run x run.start run.end l n)
  where
    f : ℕ → ℕ
    f t = cond (in_run run.start run.end t) x 0

    by : ((n ≤ run.start) × (over f n ≡ 0)) ⊎ (((run.start ≤ n) × (n ≤ run.end) × (over f n ≡ x * (n - run.start)))
        ⊎ ((run.end ≤ n) × (over f n ≡ x * (run.end - run.start)))) → over f n ≡ x * (run.end - run.start)
    by (inl (a, e)) = e ∙ sym (ap (λ k. x * k)
        (let z : run.end - run.start ≡ 0 = omega (arith, a, m) in z) ∙ nil x)
    by (inr (inl (a, b, e))) = e ∙ ap (λ k. x * (k - run.start)) (let z : n ≡ run.end = omega (arith, b, m) in z)
    by (inr (inr (a, e))) = e

-- no sum is great
pub over_small : (f : ℕ → ℕ) (b : ℕ) → ((t : ℕ) → f t ≤ b) → (n : ℕ) → over f n ≤ n * b
over_small f b h zero = omega arith
over_small f b h (suc n) = let a = over_small f b h n in let m = over_more f n in let k = h n in
    let e : suc n * b ≡ n * b + b = omega arith in omega (arith, a, m, k, e)

-- the sums of what is there and gained, and of what is left and lost
module _ (xs : Shifts) (times : ℕ) (c : ℕ → ℕ) (can : CanShift xs times c) where
  pub sums : (n : ℕ) → over (after_both xs c) n + over (lost_at xs.first) n + over (lost_at xs.second) n
      ≡ over c n + over (gained_at xs.first) n + over (gained_at xs.second) n
  sums zero = refl
  sums (suc n) =
      let a = sums n in
      let b = over_more (after_both xs c) n in
      let d = over_more (lost_at xs.first) n in
      let e = over_more (lost_at xs.second) n in
      let f = over_more c n in
      let g = over_more (gained_at xs.first) n in
      let h = over_more (gained_at xs.second) n in
      let k = can.enough n in
      let l = can.enough_then n in
      omega (arith, a, b, d, e, f, g, h, k, l)

  -- from the last time on nothing changes
  pub off_times : (t : ℕ) → times ≤ t → after_both xs c t ≡ c t
  off_times t l =
      let a = can.first.emptied in
      let b = can.first.filled in
      let d = can.second.emptied in
      let e = can.second.filled in
      off_shift xs.second (after_one xs.first (c t) t) t
      (in_not_after xs.second.emptied.start xs.second.emptied.end t (omega (arith, l, d)))
      (in_not_after xs.second.filled.start xs.second.filled.end t (omega (arith, l, e)))
      ∙ off_shift xs.first (c t) t
      (in_not_after xs.first.emptied.start xs.first.emptied.end t (omega (arith, l, a)))
      (in_not_after xs.first.filled.start xs.first.filled.end t (omega (arith, l, b)))

-- the busy times are the bits of a word
pub busy_ones : (c : ℕ → ℕ) (w times : ℕ) → w < 2 ^ 64 → times ≤ 64 → ((t : ℕ) → times ≤ t → c t ≡ 0)
    → ((i : ℕ) → i < 64 → has_bit w i ≡ nat_lt 0 (c i)) → count_below (λ t. nat_lt 0 (c t)) times ≡ count_ones w
busy_ones c w times small few beyond bits =
    sym (count_below-stays (λ t. nat_lt 0 (c t)) times 64 few (λ t low high. ap (nat_lt 0) (beyond t low)))
    ∙ count_ones-bits (λ t. nat_lt 0 (c t)) w 0 64 (λ i h. bits i h ∙ ap (λ n. nat_lt 0 (c n))
    (let e : i ≡ 0 + i = omega arith in e))
    ∙ (let e : count_below (λ t. nat_lt 0 (c t)) 0 + count_ones (w % 2 ^ 64) ≡ count_ones (w % 2 ^ 64) = omega arith
    in e) ∙ ap count_ones (mod-eq_of_lt small)

-- how much a run has in all is small
run_small : (x : ℕ) (run : Run) (n : ℕ) → run.start ≤ run.end → run.end ≤ n
    → ((t : ℕ) → cond (in_run run.start run.end t) x 0 ≤ 4294967295) → x * (run.end - run.start) ≤ n * 4294967295
run_small x run n l m few = subst (λ k. k ≤ n * 4294967295) (run_total x run n l m)
    (over_small (λ t. cond (in_run run.start run.end t) x 0) 4294967295 few n)

module _ (xs : Shifts) (times : ℕ) (c : ℕ → ℕ) (can : CanShift xs times c) where
  pub first_gained : xs.first.gained * (xs.first.filled.end - xs.first.filled.start) ≤ times * 4294967295
  first_gained = run_small xs.first.gained xs.first.filled times can.first.filled_order can.first.filled
      (λ t. (let a = can.small t in omega (arith, a)))

  pub first_lost : xs.first.lost * (xs.first.emptied.end - xs.first.emptied.start) ≤ times * 4294967295
  first_lost = run_small xs.first.lost xs.first.emptied times can.first.emptied_order can.first.emptied
      (λ t. (let a = can.small t in let b = can.enough t in omega (arith, a, b)))

  pub second_gained : xs.second.gained * (xs.second.filled.end - xs.second.filled.start) ≤ times * 4294967295
  second_gained = run_small xs.second.gained xs.second.filled times can.second.filled_order can.second.filled
      (λ t. (let a = can.small_then t in omega (arith, a)))

  pub second_lost : xs.second.lost * (xs.second.emptied.end - xs.second.emptied.start) ≤ times * 4294967295
  second_lost = run_small xs.second.lost xs.second.emptied times can.second.emptied_order can.second.emptied
      (λ t. (let a = can.small_then t in let b = can.enough_then t in omega (arith, a, b)))

  pub clashes_small : over (λ t. c t - 1) times ≤ times * 4294967295
  clashes_small = over_small (λ t. c t - 1) 4294967295 (λ t. (let a = can.small t in omega (arith, a))) times

  pub there_small : (before : ℕ) → before < 2 ^ 64 → times ≤ 64 → ((t : ℕ) → times ≤ t → c t ≡ 0)
      → ((i : ℕ) → i < 64 → has_bit before i ≡ nat_lt 0 (c i))
      → over (λ t. c t - 1) times + count_ones before ≤ times * 4294967295
  there_small before small few beyond bits =
      let a = beyond_and_busy c times in
      let d = busy_ones c before times small few beyond bits in
      let e = over_small c 4294967295 (λ t. (let a = can.small t in omega (arith, a))) times in
      omega (arith, a, d, e)

  pub clashes_then : (before after : ℕ) → before < 2 ^ 64 → after < 2 ^ 64 → times ≤ 64
      → ((t : ℕ) → times ≤ t → c t ≡ 0) → ((i : ℕ) → i < 64 → has_bit before i ≡ nat_lt 0 (c i))
      → ((i : ℕ) → i < 64 → has_bit after i ≡ nat_lt 0 (after_both xs c i))
      → over (λ t. after_both xs c t - 1) times + count_ones after
      + xs.first.lost * (xs.first.emptied.end - xs.first.emptied.start)
      + xs.second.lost * (xs.second.emptied.end - xs.second.emptied.start)
      ≡ over (λ t. c t - 1) times + count_ones before
      + xs.first.gained * (xs.first.filled.end - xs.first.filled.start)
      + xs.second.gained * (xs.second.filled.end - xs.second.filled.start)
  clashes_then before after small small_after few beyond bits bits_then =
      let a = beyond_and_busy c times in
      let b = beyond_and_busy (after_both xs c) times in
      let d = busy_ones c before times small few beyond bits in
      let e = busy_ones (after_both xs c) after times small_after few
      (λ t l. off_times xs times c can t l ∙ beyond t l) bits_then in
      let f = sums xs times c can times in
      let g = run_total xs.first.lost xs.first.emptied times can.first.emptied_order can.first.emptied in
      let h = run_total xs.second.lost xs.second.emptied times can.second.emptied_order can.second.emptied in
      let k = run_total xs.first.gained xs.first.filled times can.first.filled_order can.first.filled in
      let l = run_total xs.second.gained xs.second.filled times can.second.filled_order can.second.filled in
      omega (arith, a, b, d, e, f, g, h, k, l)

-- beyond a row no count is above 0
pub row_beyond : (row : List ℕ) (t : ℕ) → length row ≤ t → slice_index row t ≡ 0
row_beyond [] t l = refl
row_beyond (n ∷ row) zero l = absurd (omega (arith, l))
row_beyond (n ∷ row) (suc t) l = row_beyond row t (omega (arith, l))
