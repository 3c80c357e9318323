-- One cost changes, and the count and the sum of those that are dearer with it.
use Rattle.std.proofs.Common.{ℕ, zero, suc, ◌≡◌, ◌+◌, ◌*◌, ◌<◌, ◌≤◌, Bool, true, false, cond, Some, None, List, [], ◌∷◌}
use Rattle.std.proofs.Common.{length, set, get_or, refl, ap, ◌∙◌, sym, arith, sum}
use Rattle.std.specs.Prelude.{nat_lt}
use Rattle.std.proofs.Math.ListN.{length-set}
use Rattle.std.proofs.Math.Nat.{mul-le-mul}
use Rattle.std.proofs.lemmas.Bool.{le-ltb}
use Rattle.std.proofs.lemmas.List.Sums.{sum_by-cons}
use Rattle.khe_base.specs.declared.limits.TheConstants.{MONITORS}
use Rattle.monitor_graph.specs.Dearer.{dearer_from, dearer, only, is_dearer, AreCompared, CanRecount}

sum-cons : (n : ℕ) (r : List ℕ) → sum (n ∷ r) ≡ n + sum r
sum-cons n r = sum_by-cons (λ x. x) n r

count-changed : (n : ℕ) (ms cs : List ℕ) (k c : ℕ) → k < length cs → length ms ≡ length cs
    → length (dearer_from n ms (set cs k c)) + is_dearer (get_or ms k 0) (get_or cs k 0)
    ≡ length (dearer_from n ms cs) + is_dearer (get_or ms k 0) c
unfolding dearer_from
count-changed n [] cs k c l e = absurd (omega arith)
count-changed n (m ∷ ms) [] k c l e = absurd (omega arith)
count-changed n (m ∷ ms) (x ∷ cs) zero c l e = by (nat_lt m c) (nat_lt m x) (dearer_from (n + 1) ms cs)
  where
    by : (a b : Bool) (r : List ℕ) → length (cond a (n ∷ r) r) + cond b 1 0 ≡ length (cond b (n ∷ r) r) + cond a 1 0
    by true true r = refl
    by true false r = omega arith
    by false true r = omega arith
    by false false r = refl
count-changed n (m ∷ ms) (x ∷ cs) (suc k) c l e =
    by (nat_lt m x) (dearer_from (n + 1) ms (set cs k c)) (dearer_from (n + 1) ms cs)
    (count-changed (n + 1) ms cs k c (omega arith) (omega arith))
  where
    by : (b : Bool) (r q : List ℕ) → length r + is_dearer (get_or ms k 0) (get_or cs k 0)
        ≡ length q + is_dearer (get_or ms k 0) c
        → length (cond b (n ∷ r) r) + is_dearer (get_or ms k 0) (get_or cs k 0)
        ≡ length (cond b (n ∷ q) q) + is_dearer (get_or ms k 0) c
    by true r q h = omega arith
    by false r q h = h

sum-changed : (n : ℕ) (ms cs : List ℕ) (k c : ℕ) → k < length cs → length ms ≡ length cs
    → sum (dearer_from n ms (set cs k c)) + is_dearer (get_or ms k 0) (get_or cs k 0) * (n + k)
    ≡ sum (dearer_from n ms cs) + is_dearer (get_or ms k 0) c * (n + k)
unfolding dearer_from
sum-changed n [] cs k c l e = absurd (omega arith)
sum-changed n (m ∷ ms) [] k c l e = absurd (omega arith)
sum-changed n (m ∷ ms) (x ∷ cs) zero c l e = by (nat_lt m c) (nat_lt m x) (dearer_from (n + 1) ms cs)
  where
    by : (a b : Bool) (r : List ℕ) → sum (cond a (n ∷ r) r) + cond b 1 0 * (n + 0)
        ≡ sum (cond b (n ∷ r) r) + cond a 1 0 * (n + 0)
    by true true r = refl
    by true false r = omega (arith, sum-cons n r)
    by false true r = omega (arith, sum-cons n r)
    by false false r = refl
sum-changed n (m ∷ ms) (x ∷ cs) (suc k) c l e =
    by (nat_lt m x) (dearer_from (n + 1) ms (set cs k c)) (dearer_from (n + 1) ms cs)
    (sum-changed (n + 1) ms cs k c (omega arith) (omega arith))
  where
    by : (b : Bool) (r q : List ℕ) → sum r + is_dearer (get_or ms k 0) (get_or cs k 0) * (n + 1 + k)
        ≡ sum q + is_dearer (get_or ms k 0) c * (n + 1 + k)
        → sum (cond b (n ∷ r) r) + is_dearer (get_or ms k 0) (get_or cs k 0) * (n + suc k)
        ≡ sum (cond b (n ∷ q) q) + is_dearer (get_or ms k 0) c * (n + suc k)
    by true r q h = omega (arith, sum-cons n r, sum-cons n q, h)
    by false r q h = omega (arith, h)

-- they are no more than the costs, and each number is below the end
count-small : (n : ℕ) (ms cs : List ℕ) → length (dearer_from n ms cs) ≤ length cs
unfolding dearer_from
count-small n [] cs = omega arith
count-small n (m ∷ ms) [] = omega arith
count-small n (m ∷ ms) (c ∷ cs) = by (nat_lt m c) (dearer_from (n + 1) ms cs) (count-small (n + 1) ms cs)
  where
    by : (b : Bool) (r : List ℕ) → length r ≤ length cs → length (cond b (n ∷ r) r) ≤ length (c ∷ cs)
    by true r h = omega arith
    by false r h = omega arith

sum-small : (n b : ℕ) (ms cs : List ℕ) → n + length cs ≤ b
    → sum (dearer_from n ms cs) ≤ length (dearer_from n ms cs) * b
unfolding dearer_from
sum-small n b [] cs l = omega arith
sum-small n b (m ∷ ms) [] l = omega arith
sum-small n b (m ∷ ms) (c ∷ cs) l = by (nat_lt m c) (dearer_from (n + 1) ms cs)
    (sum-small (n + 1) b ms cs (omega arith))
  where
    by : (x : Bool) (r : List ℕ) → sum r ≤ length r * b → sum (cond x (n ∷ r) r) ≤ length (cond x (n ∷ r) r) * b
    by true r h = omega (arith, sum-cons n r)
    by false r h = h

-- the only one is the sum
pub only-one : (xs : List ℕ) → length xs ≡ 1 → only xs ≡ Some (sum xs)
unfolding only
only-one [] e = absurd (omega arith)
only-one (x ∷ []) e = ap Some (let q : x ≡ sum (x ∷ []) = omega (arith, sum-cons x []) in q)
only-one (x ∷ y ∷ ys) e = absurd (omega arith)

pub not-only : (xs : List ℕ) → (length xs ≡ 1 → ⊥) → only xs ≡ None
unfolding only
not-only [] e = refl
not-only (x ∷ []) e = absurd (e refl)
not-only (x ∷ y ∷ ys) e = refl

-- where the costs are marked, none is dearer
pub none-dearer : (n : ℕ) (cs : List ℕ) → dearer_from n cs cs ≡ []
unfolding dearer_from
none-dearer n [] = refl
none-dearer n (c ∷ cs) = ap (λ b. cond b (n ∷ dearer_from (n + 1) cs cs) (dearer_from (n + 1) cs cs))
    (le-ltb c c (omega arith)) ∙ none-dearer (n + 1) cs

pub marked_now : (cs marked : List ℕ) → length cs ≤ MONITORS → marked ≡ cs → AreCompared cs marked 0 0
marked_now cs marked few e = record {
  long = ap length e;
  few = few;
  counted = ap length (sym (ap (λ ms. dearer ms cs) e ∙ none-dearer 0 cs));
  summed = ap sum (sym (ap (λ ms. dearer ms cs) e ∙ none-dearer 0 cs));
}

-- what may be taken away is there
pub can_recount : (cs ms : List ℕ) (count numbers k : ℕ) → AreCompared cs ms count numbers → k < length cs
    → CanRecount (get_or ms k 0) (get_or cs k 0) count numbers k
can_recount cs ms count numbers k kept l =
    let few = kept.few in let e = kept.counted in let f = kept.summed in
    let zero_is : is_dearer (get_or ms k 0) 0 ≡ 0 = ap (λ b. cond b 1 0) (le-ltb (get_or ms k 0) 0 (omega arith)) in
    let g = count-changed 0 ms cs k 0 l kept.long in
    let z : 0 + k ≡ k = omega arith in
    let h : sum (dearer ms (set cs k 0)) + is_dearer (get_or ms k 0) (get_or cs k 0) * k
    ≡ sum (dearer ms cs) + is_dearer (get_or ms k 0) 0 * k =
    ap (λ y. sum (dearer ms (set cs k 0)) + is_dearer (get_or ms k 0) (get_or cs k 0) * y) (sym z)
    ∙ sum-changed 0 ms cs k 0 l kept.long ∙ ap (λ y. sum (dearer ms cs) + is_dearer (get_or ms k 0) 0 * y) z in
    let none : is_dearer (get_or ms k 0) 0 * k ≡ 0 = ap (λ n. n * k) zero_is ∙ (let w : 0 * k ≡ 0 = omega arith in w) in
    let small = count-small 0 ms cs in
    let big = sum-small 0 (length cs) ms cs (omega arith) in
    let bound : length (dearer ms cs) * length cs ≤ MONITORS * MONITORS =
    mul-le-mul (let c : length (dearer ms cs) ≤ MONITORS = omega (arith, small, few) in c) few in
    record {
      counted = omega (arith, g, zero_is, e);
      summed =
          by _ _ _ (is_dearer (get_or ms k 0) (get_or cs k 0) * k) f h none;
      count_small = omega (arith, e, small, few);
      sum_small = omega (arith, f, big, bound);
    }
  where
    by : (x y z a : ℕ) {n : ℕ} → x ≡ y → z + a ≡ y + n → n ≡ 0 → a ≤ x
    by x y z a f h none = omega (arith, f, h, none)

pub recounted : (cs ms : List ℕ) (count numbers count2 numbers2 k c : ℕ) → AreCompared cs ms count numbers
    → k < length cs
    → count2 + is_dearer (get_or ms k 0) (get_or cs k 0) ≡ count + is_dearer (get_or ms k 0) c
    → numbers2 + is_dearer (get_or ms k 0) (get_or cs k 0) * k ≡ numbers + is_dearer (get_or ms k 0) c * k
    → AreCompared (set cs k c) ms count2 numbers2
recounted cs ms count numbers count2 numbers2 k c kept l a b =
    let e = kept.counted in let f = kept.summed in
    let g = count-changed 0 ms cs k c l kept.long in
    let z : 0 + k ≡ k = omega arith in
    let h : sum (dearer ms (set cs k c)) + is_dearer (get_or ms k 0) (get_or cs k 0) * k
    ≡ sum (dearer ms cs) + is_dearer (get_or ms k 0) c * k =
    ap (λ y. sum (dearer ms (set cs k c)) + is_dearer (get_or ms k 0) (get_or cs k 0) * y) (sym z)
    ∙ sum-changed 0 ms cs k c l kept.long ∙ ap (λ y. sum (dearer ms cs) + is_dearer (get_or ms k 0) c * y) z in
    record {
      long = kept.long ∙ sym (length-set cs k c);
      few = (let few = kept.few in omega (arith, length-set cs k c, few));
      counted = omega (arith, a, g, e);
      summed = same _ _ _ _ _ _ f h b;
    }
  where
    same : (x y z w p q : ℕ) → x ≡ y → w + p ≡ y + q → z + p ≡ x + q → z ≡ w
    same x y z w p q f h b = omega (arith, f, h, b)

-- the only one is a monitor
pub only_small : (cs ms : List ℕ) (count numbers : ℕ) → AreCompared cs ms count numbers → count ≡ 1 → numbers ≤ MONITORS
only_small cs ms count numbers kept one =
    let big = sum-small 0 (length cs) ms cs (omega arith) in
    let single : length (dearer ms cs) ≡ 1 = sym kept.counted ∙ one in
    let bound : length (dearer ms cs) * length cs ≡ 1 * length cs = ap (λ n. n * length cs) single in
    let few = kept.few in let f = kept.summed in
    omega (arith, big, bound, few, f)
