-- Two tasks that are alike cost together with two resources what they cost with them exchanged, but for the monitors
-- that prefer some of their resources.
use Rattle.std.proofs.Common.{ℕ, ◌≡◌, ◌+◌, ◌<◌, ◌≤◌, Bool, true, false, cond, Option, Some, None, List, []}
use Rattle.std.proofs.Common.{◌∷◌, length, map, get_or, slice_get, sum_by, refl, sym, ap, ◌∙◌, arith, inl, inr}
use Rattle.std.proofs.Common.{zero-add}
use Rattle.std.specs.Prelude.{not}
use Rattle.std.specs.List.{filter}
use Rattle.std.specs.Option.{option_map_or}
use Rattle.std.proofs.lemmas.Bool.{cases_lt}
use Rattle.std.proofs.lemmas.List.{get_or-map, get_or_past}
use Rattle.std.proofs.lemmas.List.FromFn.{get_or-map-range_with_len, length-map-range_with_len}
use Rattle.std.proofs.lemmas.List.Sums.{sum_by-cons}
use Rattle.std.proofs.lemmas.Option.{get_or_from_slice_get, slice_get_within}
use Rattle.khe_base.specs.declared.numbers.ResourceId.{ResourceId}
use Rattle.khe_base.specs.declared.numbers.TaskId.{TaskId}
use Rattle.khe_instance.specs.Costs.{cost_at, costs_of, is_hard_at, monitor_cost, totals_of}
use Rattle.khe_instance.specs.declared.parts.Parts.{Parts}
use Rattle.khe_instance.specs.declared.points.Monitor.{Monitor}
use Rattle.khe_told.specs.Agreement.{deviation_in}
use Rattle.khe_told.specs.declared.slots.Slot.{Slot}
use Rattle.time_match.specs.Alike.{AreAlike, IsBare, prefers}
use Rattle.time_match.specs.Parted.{IsSingle, all_numbers, costs_given, prefers_number, rest_with, wishes_with}
use Rattle.time_match.proofs.AlikeLaws.{four_monitor, rest_of, with_it}

-- the cost of the monitor with a number, in slots
pub cost_is : (p : Parts) (off : ℕ → Bool) (s : List Slot) (n : ℕ)
    → get_or (costs_of p off (map (deviation_in p s) p.monitors)) n 0
    ≡ option_map_or (λ (m : Monitor). monitor_cost p (off n) m (deviation_in p s m)) (slice_get p.monitors n) 0
cost_is p off s n = by (slice_get p.monitors n) refl
  where
    there : n < length p.monitors
        → get_or (costs_of p off (map (deviation_in p s) p.monitors)) n 0
        ≡ cost_at p off (map (deviation_in p s) p.monitors) n
    there l = get_or-map-range_with_len (cost_at p off (map (deviation_in p s) p.monitors)) 0 (length p.monitors) n n 0
        l (zero-add n)

    beyond : length p.monitors ≤ n → get_or (costs_of p off (map (deviation_in p s) p.monitors)) n 0 ≡ 0
    beyond g =
        let many = length-map-range_with_len (cost_at p off (map (deviation_in p s) p.monitors)) 0
        (length p.monitors) in
        get_or_past (costs_of p off (map (deviation_in p s) p.monitors)) n 0 (omega (arith, g, many))

    by : (o : Option Monitor) → slice_get p.monitors n ≡ o
        → get_or (costs_of p off (map (deviation_in p s) p.monitors)) n 0
        ≡ option_map_or (λ (m : Monitor). monitor_cost p (off n) m (deviation_in p s m)) o 0
    by None e = elim (cases_lt n (length p.monitors)) [
      | inl l ↦ there l
          ∙ ap (λ o. option_map_or (λ (m : Monitor). monitor_cost p (off n) m
          (get_or (map (deviation_in p s) p.monitors) n 0)) o 0) e
      | inr g ↦ beyond g
    ]
    by (Some m) e =
        let l = slice_get_within p.monitors n m e in
        let own : get_or (map (deviation_in p s) p.monitors) n 0 ≡ deviation_in p s m =
        get_or-map (deviation_in p s) p.monitors n m 0 l
        ∙ ap (deviation_in p s) (get_or_from_slice_get p.monitors n m m e) in
        there l
        ∙ ap (λ o. option_map_or (λ (q : Monitor). monitor_cost p (off n) q
        (get_or (map (deviation_in p s) p.monitors) n 0)) o 0) e
        ∙ ap (monitor_cost p (off n) m) own

-- sums of what is left, and sums that agree in pairs
pub sum_left : {X : Type 0} (f : X → ℕ) (test : X → Bool) (xs : List X)
    → sum_by f (filter test xs) ≡ sum_by (λ x. cond (test x) (f x) 0) xs
sum_left f test [] = refl
sum_left f test (x ∷ xs) =
    by (test x) ∙ ap (λ n. cond (test x) (f x) 0 + n) (sum_left f test xs)
    ∙ sym (sum_by-cons (λ y. cond (test y) (f y) 0) x xs)
  where
    by : (c : Bool) → sum_by f (cond c (x ∷ filter test xs) (filter test xs))
        ≡ cond c (f x) 0 + sum_by f (filter test xs)
    by true = sum_by-cons f x (filter test xs)
    by false = let z : sum_by f (filter test xs) ≡ 0 + sum_by f (filter test xs) = omega arith in z

sum_four : (f g h k : ℕ → ℕ) (ns : List ℕ) → ((n : ℕ) → f n + g n ≡ h n + k n)
    → sum_by f ns + sum_by g ns ≡ sum_by h ns + sum_by k ns
sum_four f g h k [] e = refl
sum_four f g h k (n ∷ ns) e =
    let own = e n in
    let rest = sum_four f g h k ns e in
    let a = sum_by-cons f n ns in
    let b = sum_by-cons g n ns in
    let c = sum_by-cons h n ns in
    let d = sum_by-cons k n ns in
    omega (arith, own, rest, a, b, c, d)

both_parts : (f : ℕ → ℕ) (test : ℕ → Bool) (ns : List ℕ)
    → sum_by f ns ≡ sum_by f (filter (λ n. not (test n)) ns) + sum_by f (filter test ns)
both_parts f test [] = refl
both_parts f test (n ∷ ns) =
    let rest = both_parts f test ns in
    let a = sum_by-cons f n ns in
    let b = by (test n) in
    omega (arith, rest, a, b)
  where
    by : (c : Bool)
        → sum_by f (cond (not c) (n ∷ filter (λ k. not (test k)) ns) (filter (λ k. not (test k)) ns))
        + sum_by f (cond c (n ∷ filter test ns) (filter test ns))
        ≡ f n + (sum_by f (filter (λ k. not (test k)) ns) + sum_by f (filter test ns))
    by true = let e = sum_by-cons f n (filter test ns) in omega (arith, e)
    by false = let e = sum_by-cons f n (filter (λ k. not (test k)) ns) in omega (arith, e)

-- what all monitors cost is the one part and the other
pub parted_hard : (p : Parts) (off : ℕ → Bool) (s : List Slot) (t : TaskId) (r : ResourceId)
    → (totals_of p (costs_given p off s t r)).hard ≡ (rest_with p off s t r).hard + (wishes_with p off s t r).hard
parted_hard p off s t r = both_parts (λ n. cond (is_hard_at p n) (get_or (costs_given p off s t r) n 0) 0)
    (prefers_number p s t) (all_numbers p)

pub parted_soft : (p : Parts) (off : ℕ → Bool) (s : List Slot) (t : TaskId) (r : ResourceId)
    → (totals_of p (costs_given p off s t r)).soft ≡ (rest_with p off s t r).soft + (wishes_with p off s t r).soft
parted_soft p off s t r = both_parts (λ n. cond (is_hard_at p n) 0 (get_or (costs_given p off s t r) n 0))
    (prefers_number p s t) (all_numbers p)

-- one of the two totals, by what it takes of the cost of each monitor
module _ (p : Parts) (off : ℕ → Bool) (s : List Slot) (pick : ℕ → ℕ → ℕ) (nothing : (n : ℕ) → pick n 0 ≡ 0) where
  abbrev taken : TaskId → ResourceId → ℕ → ℕ
  taken t r n = pick n (get_or (costs_given p off s t r) n 0)

  -- what is taken of a monitor that has no preference
  abbrev left : TaskId → ResourceId → ℕ → ℕ
  left t r n = cond (not (prefers_number p s t n)) (taken t r n) 0

  abbrev cost_by : ℕ → Monitor → ℕ → ℕ
  cost_by n m d = pick n (monitor_cost p (off n) m d)

  left_is : (t : TaskId) (r : ResourceId) (n : ℕ) → left t r n
      ≡ option_map_or (λ (m : Monitor). rest_of p s t (cost_by n m) m r) (slice_get p.monitors n) 0
  left_is t r n =
      ap (λ k. cond (not (prefers_number p s t n)) (pick n k) 0) (cost_is p off (with_it s t r) n)
      ∙ by (slice_get p.monitors n)
    where
      by : (o : Option Monitor) → cond (not (option_map_or (prefers p s t) o false))
          (pick n (option_map_or (λ (m : Monitor). monitor_cost p (off n) m (deviation_in p (with_it s t r) m)) o 0)) 0
          ≡ option_map_or (λ (m : Monitor). rest_of p s t (cost_by n m) m r) o 0
      by None = nothing n
      by (Some m) = refl

  module _ (x y : TaskId) (r q : ResourceId) (hx : IsBare s x) (hy : IsBare s y) (like : AreAlike p s x y)
      (u : IsSingle p s x) (v : IsSingle p s y) where
    four_left : (n : ℕ) → left x r n + left y q n ≡ left x q n + left y r n
    four_left n =
        let a = left_is x r n in
        let c = left_is y q n in
        let d = left_is x q n in
        let e = left_is y r n in
        let f = by (slice_get p.monitors n) refl in
        omega (arith, a, c, d, e, f)
      where
        by : (o : Option Monitor) → slice_get p.monitors n ≡ o
            → option_map_or (λ (m : Monitor). rest_of p s x (cost_by n m) m r) o 0
            + option_map_or (λ (m : Monitor). rest_of p s y (cost_by n m) m q) o 0
            ≡ option_map_or (λ (m : Monitor). rest_of p s x (cost_by n m) m q) o 0
            + option_map_or (λ (m : Monitor). rest_of p s y (cost_by n m) m r) o 0
        by None e = refl
        by (Some m) e = four_monitor p s x y r q hx hy like (cost_by n m) m (u n m e) (v n m e)

    abbrev summed : TaskId → ResourceId → ℕ
    summed t w = sum_by (taken t w) (filter (λ n. not (prefers_number p s t n)) (all_numbers p))

    pub four : summed x r + summed y q ≡ summed x q + summed y r
    four =
        let test = λ (t : TaskId) (n : ℕ). not (prefers_number p s t n) in
        let a = sum_left (taken x r) (test x) (all_numbers p) in
        let c = sum_left (taken y q) (test y) (all_numbers p) in
        let d = sum_left (taken x q) (test x) (all_numbers p) in
        let e = sum_left (taken y r) (test y) (all_numbers p) in
        let f = sum_four (left x r) (left y q) (left x q) (left y r) (all_numbers p) four_left in
        omega (arith, a, c, d, e, f)

-- two tasks that are alike, with two resources and with these exchanged
nothing_of : (h : Bool) → cond {A = ℕ} h 0 0 ≡ 0
nothing_of true = refl
nothing_of false = refl

pub four_hard : (p : Parts) (off : ℕ → Bool) (s : List Slot) (x y : TaskId) (r q : ResourceId) → IsBare s x → IsBare s y
    → AreAlike p s x y → IsSingle p s x → IsSingle p s y
    → (rest_with p off s x r).hard + (rest_with p off s y q).hard
    ≡ (rest_with p off s x q).hard + (rest_with p off s y r).hard
four_hard p off s = four p off s (λ n c. cond (is_hard_at p n) c 0) (λ n. nothing_of (is_hard_at p n))

pub four_soft : (p : Parts) (off : ℕ → Bool) (s : List Slot) (x y : TaskId) (r q : ResourceId) → IsBare s x → IsBare s y
    → AreAlike p s x y → IsSingle p s x → IsSingle p s y
    → (rest_with p off s x r).soft + (rest_with p off s y q).soft
    ≡ (rest_with p off s x q).soft + (rest_with p off s y r).soft
four_soft p off s = four p off s (λ n c. cond (is_hard_at p n) 0 c) (λ n. nothing_of (is_hard_at p n))
