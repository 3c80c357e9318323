-- The unit of durations is their least common multiple.
use Rattle.std.proofs.Common.{ℕ, ◌≡◌, ◌∙◌, sym, ap, subst, ◌+◌, ◌*◌, ◌/◌, ◌%◌, ◌<◌, ◌≤◌, suc, zero, refl, arith, Bool}
use Rattle.std.proofs.Common.{true, false, cond, Option, Some, List, [], ◌∷◌, All, lit<, lit≤, eqb, mul_assoc, mul-zero}
use Rattle.std.proofs.Common.{inl, inr}
use Prim.Native.Nat.{◌∣◌}
use Rattle.std.specs.Prelude.{find}
use Rattle.std.specs.List.{fold, range_with_len}
use Rattle.std.specs.Option.{option_map_or}
use Rattle.std.proofs.lemmas.Bool.{true≢false, cases_lt, eqb-true, eq-eqb}
use Rattle.std.proofs.lemmas.Nat.{mod_below}
use Rattle.std.proofs.lemmas.Nat.Gcd.{dvd_refl, dvd_trans, dvd_of_mod-eq-zero, mod-eq-zero_of_dvd}
use Rattle.std.proofs.Math.Nat.{dvd-mul_left, dvd-mul_right, dvd-add_iff_right, div-add-mod, mul-add, mul-div_cancel'}
use Rattle.std.proofs.Math.Nat.{one-dvd}
use Rattle.std.proofs.lemmas.List.Elements.{All-nil, All-cons, All-head, All-tail}
use Rattle.khe_base.specs.Units.{IsUnit, IsLeastMultiple}
use Rattle.khe_base.specs.declared.limits.TheConstants.{UNIT}
use Rattle.xhstt_resolve.specs.Units.{least_multiple, running_units, unit_of}

-- the first number from a start on that passes a test
record IsFirst (test : ℕ → Bool) (start : ℕ) (o : Option ℕ) : Type 0 where
  k : ℕ
  is : o ≡ Some k
  from : start ≤ k
  passes : test k ≡ true
  before : (j : ℕ) → start ≤ j → j < k → test j ≡ false

first_found : (test : ℕ → Bool) (start n m : ℕ) → start ≤ m → m < start + n → test m ≡ true
    → IsFirst test start (find test (range_with_len start n))
first_found test start zero m a b t = absurd (omega arith)
first_found test start (suc n) m a b t = by (test start) refl (first_found test (start + 1) n m)
  where
    by : (r : Bool) → test start ≡ r → (start + 1 ≤ m → m < start + 1 + n → test m ≡ true
        → IsFirst test (start + 1) (find test (range_with_len (start + 1) n)))
        → IsFirst test start (cond r (Some start) (find test (range_with_len (start + 1) n)))
    by true is later = record {
      k = start;
      is = refl;
      from = omega arith;
      passes = is;
      before =
          λ j l h. absurd (omega arith);
    }
    by false is later = elim (cases_lt start m) [
      | inl below ↦
          (let rest = later (omega arith) (omega arith) t in
          record {
            k = rest.k;
            is = rest.is;
            from = omega (arith, rest.from);
            passes = rest.passes;
            before = λ j l h. elim (cases_lt start j) [
              | inl more ↦ rest.before j (omega arith) h
              | inr less ↦ (let e : j ≡ start = omega arith in ap test e ∙ is)
            ];
          })
      | inr past ↦ (let e : m ≡ start = omega arith in absurd (true≢false (sym t ∙ ap test e ∙ is)))
    ]

product_positive : (a b : ℕ) → 0 < a → 0 < b → 0 < a * b
product_positive zero b ha hb = absurd (omega arith)
product_positive (suc a) zero ha hb = absurd (omega arith)
product_positive (suc a) (suc b) ha hb = omega arith

-- a number times what is left over by the least factor is no multiple, so nothing is left over
nothing_left : (a b k r : ℕ) → r < k → b ∣ a * r → ((j : ℕ) → 1 ≤ j → j < k → eqb ((a * j) % b) 0 ≡ false) → r ≡ 0
nothing_left a b k zero l d before = refl
nothing_left a b k (suc r) l d before = absurd
    (true≢false (sym (eq-eqb _ 0 (mod-eq-zero_of_dvd b d)) ∙ before (suc r) (omega arith) l))

-- the product with the least factor divides each common multiple
least_divides : (a b k n : ℕ) → 1 ≤ k → b ∣ a * k → ((j : ℕ) → 1 ≤ j → j < k → eqb ((a * j) % b) 0 ≡ false) → a ∣ n
    → b ∣ n → a * k ∣ n
least_divides a b k n from right before an bn =
    let q = n / a in
    let t = q / k in
    let r = q % k in
    let e : a * (k * t) + a * r ≡ n = sym (mul-add a (k * t) r) ∙ ap (λ x. a * x) (div-add-mod q k)
    ∙ mul-div_cancel' a an in
    let steps : b ∣ a * (k * t) = subst (λ x. b ∣ x) (mul_assoc a k t) (dvd_trans b right (dvd-mul_right (a * k) t)) in
    let left : b ∣ a * r = (dvd-add_iff_right b steps).1 (subst (λ x. b ∣ x) (sym e) bn) in
    let none : r ≡ 0 = nothing_left a b k r (mod_below q k from) left before in
    let nothing : a * r ≡ 0 = ap (λ x. a * x) none ∙ mul-zero a in
    let whole : a * (k * t) ≡ n = omega arith in
    subst (λ x. a * k ∣ x) (mul_assoc a k t ∙ whole) (dvd-mul_right (a * k) t)

least_is : (a b : ℕ) → 0 < a → 0 < b → IsLeastMultiple a b (least_multiple a b)
least_is a b pa pb =
    let test = λ (k : ℕ). eqb ((a * k) % b) 0 in
    let f = first_found test 1 b b (omega arith) (omega arith) (eq-eqb _ 0 (mod-eq-zero_of_dvd b (dvd-mul_left b a))) in
    subst (IsLeastMultiple a b) (sym (ap (λ o. option_map_or (λ k. a * k) o 0) f.is)) (of f.k f.from f.passes f.before)
  where
    of : (k : ℕ) → 1 ≤ k → eqb ((a * k) % b) 0 ≡ true → ((j : ℕ) → 1 ≤ j → j < k → eqb ((a * j) % b) 0 ≡ false)
        → IsLeastMultiple a b (a * k)
    of k from passes before =
        let right : b ∣ a * k = dvd_of_mod-eq-zero b (eqb-true _ 0 passes) in
        record {
          positive = product_positive a k pa (omega arith);
          left = dvd-mul_right a k;
          right = right;
          least = λ n an bn. least_divides a b k n from right before an bn;
        }

-- the running multiple of all durations
record IsMultiple (u : ℕ) (ds : List ℕ) (m : ℕ) : Type 0 where
  positive : 0 < m
  start : u ∣ m
  divided : All (λ d. d ∣ m) ds
  least : (n : ℕ) → u ∣ n → All (λ d. d ∣ n) ds → m ∣ n

multiple_of : (u : ℕ) (ds : List ℕ) → 0 < u → All (λ d. 0 < d) ds → IsMultiple u ds (fold least_multiple u ds)
multiple_of u [] p all = record { positive = p; start = dvd_refl u; divided = All-nil (λ d. d ∣ u); least = λ n h _. h }
multiple_of u (d ∷ ds) p all =
    let one = least_is u d p (All-head (λ x. 0 < x) d ds all) in
    let m = fold least_multiple (least_multiple u d) ds in
    let rest = multiple_of (least_multiple u d) ds one.positive (All-tail (λ x. 0 < x) d ds all) in
    record {
      positive = rest.positive;
      start = dvd_trans u one.left rest.start;
      divided = All-cons (λ x. x ∣ m) d ds (dvd_trans d one.right rest.start) rest.divided;
      least = λ n h each.
          rest.least n (one.least n h (All-head (λ x. x ∣ n) d ds each)) (All-tail (λ x. x ∣ n) d ds each);
    }

pub unit_is : (ds : List ℕ) → All (λ d. 0 < d) ds → IsUnit ds (unit_of ds)
unit_is ds all =
    let m = multiple_of 1 ds (lit< tt) all in
    record { positive = m.positive; divided = m.divided; least = λ n each. m.least n (one-dvd n) each }

-- the last multiple is in the limit where all are
last_within : (u greatest : ℕ) (ds : List ℕ) → u ≤ greatest → All (λ n. n ≤ greatest) (running_units u ds)
    → fold least_multiple u ds ≤ greatest
last_within u greatest [] l all = l
last_within u greatest (d ∷ ds) l all =
    let m = least_multiple u d in
    last_within m greatest ds (All-head (λ n. n ≤ greatest) m (running_units m ds) all)
    (All-tail (λ n. n ≤ greatest) m (running_units m ds) all)

pub unit_within : (ds : List ℕ) → All (λ n. n ≤ UNIT) (running_units 1 ds) → unit_of ds ≤ UNIT
unit_within ds all = last_within 1 UNIT ds (lit≤ tt) all
