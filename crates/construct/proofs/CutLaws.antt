-- The least number of meets that may be cut of a duration, and the durations of these meets.
use Rattle.std.proofs.Common.{ℕ, zero, suc, ◌≡◌, ◌+◌, ◌-◌, ◌*◌, ◌/◌, ◌%◌, ◌<◌, ◌≤◌, Bool, true, false, ◌&&◌, cond, min, max}
use Rattle.std.proofs.Common.{Option, Some, None, List, [], ◌∷◌, length, map, refl, sym, ap, ◌∙◌, arith, subst, add-one}
use Rattle.std.proofs.Common.{inl, inr}
use Rattle.std.specs.List.{find, fold, range_with_len, sum_by}
use Rattle.std.specs.Prelude.{All, nat_le, nat_lt, sum}
use Rattle.std.specs.Option.{unwrap_or}
use Rattle.std.proofs.lemmas.Bool.{and_parts, and_from, both_ways, leb-true, le-leb, cases_lt, cases_eq}
use Rattle.std.proofs.lemmas.Bool.Decides.{nat_tests}
use Rattle.std.proofs.lemmas.List.Elements.{All-nil, All-cons, All-head, All-tail, All-map, All-weaker}
use Rattle.std.proofs.lemmas.List.FromFn.{length-map-range_with_len}
use Rattle.std.proofs.lemmas.List.Sums.{sum_by-cons}
use Rattle.std.proofs.lemmas.Nat.{le-div, div-add-mod', mod_below}
use Rattle.std.proofs.Math.Nat.{mul-le-mul_left}
use Rattle.construct.specs.declared.bounds.Bounds.{Bounds}
use Rattle.construct.specs.Cuts.{Keeps, allows, least_amount, narrowed, part, parts, widest}

-- a search over numbers goes on behind the first one
pub find_next : (p : ℕ → Bool) (k d : ℕ) → k < d
    → find p (range_with_len (k + 1) (d - k))
    ≡ cond (p (k + 1)) (Some (k + 1)) (find p (range_with_len (k + 1 + 1) (d - (k + 1))))
find_next p k d l =
    let e : d - k ≡ suc (d - (k + 1)) = omega arith in
    ap (λ n. find p (range_with_len (k + 1) n)) e

-- what is found is the first
pub record IsFound (p : ℕ → Bool) (from n : ℕ) (o : Option ℕ) : Type 0 where
  pub value : ℕ
  pub is : o ≡ Some value
  pub passes : p value ≡ true
  pub least : value ≤ n
  pub from_there : from ≤ value

pub found_first : (p : ℕ → Bool) (from many n : ℕ) → from ≤ n → n < from + many → p n ≡ true
    → IsFound p from n (find p (range_with_len from many))
found_first p from zero n a b h = absurd (omega arith)
found_first p from (suc many) n a b h =
    by (p from) refl (λ l. found_first p (from + 1) many n l (omega arith) h)
  where
    by : (c : Bool) → p from ≡ c → (from + 1 ≤ n → IsFound p (from + 1) n (find p (range_with_len (from + 1) many)))
        → IsFound p from n (cond c (Some from) (find p (range_with_len (from + 1) many)))
    by true e later = record { value = from; is = refl; passes = e; least = a; from_there = omega arith }
    by false e later = elim (cases_eq from n) [
      | inl same ↦ absurd (both_ways (p from) e (ap p same ∙ h))
      | inr other ↦
          let r = later (omega (arith, a, other)) in
          let l = r.from_there in
          record { value = r.value; is = r.is; passes = r.passes; least = r.least; from_there = omega (arith, l) }
    ]

-- what is found is among the numbers
pub record IsWithin (from many : ℕ) (o : Option ℕ) : Type 0 where
  pub low : (n : ℕ) → o ≡ Some n → from ≤ n
  pub high : (n : ℕ) → o ≡ Some n → n < from + many

pub found_within : (p : ℕ → Bool) (from many : ℕ) → IsWithin from many (find p (range_with_len from many))
found_within p from zero = record { low = λ n e. cc; high = λ n e. cc }
found_within p from (suc many) = by (p from) (found_within p (from + 1) many)
  where
    by : (c : Bool) → IsWithin (from + 1) many (find p (range_with_len (from + 1) many))
        → IsWithin from (suc many) (cond c (Some from) (find p (range_with_len (from + 1) many)))
    by true r = record {
      low = λ n e. (let s : from ≡ n = cc in omega (arith, s));
      high = λ n e. (let s : from ≡ n = cc in omega (arith, s));
    }
    by false r = record {
      low = λ n e. (let s = r.low n e in omega (arith, s));
      high = λ n e. (let s = r.high n e in omega (arith, s));
    }

-- there are at least one and no more than the duration
pub record IsAmount (d n : ℕ) : Type 0 where
  pub some : 1 ≤ n
  pub few : n ≤ d

amount_of_found : (d : ℕ) (o : Option ℕ) → 1 ≤ d → IsWithin 1 d o → IsAmount d (unwrap_or o 1)
amount_of_found d None l w = record { some = omega arith; few = l }
amount_of_found d (Some n) l w =
    let a = w.low n refl in let b = w.high n refl in record { some = a; few = omega (arith, b) }

pub least_few : (b : Bounds) (d : ℕ) → 1 ≤ d → IsAmount d (least_amount b d)
unfolding least_amount
least_few b d l = amount_of_found d (find (allows b d) (range_with_len 1 d)) l (found_within (allows b d) 1 d)

-- what a number of meets that is allowed says
pub record IsAllowed (b : Bounds) (d n : ℕ) : Type 0 where
  pub least : b.min_amount ≤ n
  pub most : n ≤ b.max_amount
  pub fit : n * b.min_duration ≤ d
  pub fill : d ≤ n * b.max_duration

pub allowed : (b : Bounds) (d n : ℕ) → allows b d n ≡ true → IsAllowed b d n
unfolding allows
allowed b d n h =
    let x = and_parts _ _ h in let y = and_parts _ _ x.0 in let z = and_parts _ _ x.1 in
    record {
      least = leb-true b.min_amount n y.0;
      most = leb-true n b.max_amount y.1;
      fit = leb-true (n * b.min_duration) d z.0;
      fill = leb-true d (n * b.max_duration) z.1;
    }

pub allows_it : (b : Bounds) (d n : ℕ) → IsAllowed b d n → allows b d n ≡ true
unfolding allows
allows_it b d n h =
    and_from _ _ (and_from _ _ (le-leb b.min_amount n h.least) (le-leb n b.max_amount h.most))
    (and_from _ _ (le-leb (n * b.min_duration) d h.fit) (le-leb d (n * b.max_duration) h.fill))

-- where some number is allowed, the least one is found
at_least_one : (n hi d : ℕ) → 1 ≤ d → d ≤ n * hi → 1 ≤ n
at_least_one zero hi d l h = absurd (omega arith)
at_least_one (suc n) hi d l h = omega arith

no_more : (n lo d : ℕ) → 1 ≤ lo → n * lo ≤ d → n ≤ d
no_more n lo d l h = let e = mul-le-mul_left n l in omega (arith, e)

pub least_found : (b : Bounds) (d n : ℕ) → 1 ≤ d → 1 ≤ b.min_duration → IsAllowed b d n
    → IsAllowed b d (least_amount b d) × (least_amount b d ≤ n)
unfolding least_amount
least_found b d n l lo h =
    let some = at_least_one n b.max_duration d l h.fill in
    let few = no_more n b.min_duration d lo h.fit in
    let r = found_first (allows b d) 1 d n some (omega (arith, few)) (allows_it b d n h) in
    let e : unwrap_or (find (allows b d) (range_with_len 1 d)) 1 ≡ r.value = ap (λ (o : Option ℕ). unwrap_or o 1) r.is in (
      subst (IsAllowed b d) (sym e) (allowed b d r.value r.passes),
      (let a = r.least in omega (arith, a, e)),
    )

-- each part is as long as the bounds allow
quotient_above : (d n lo : ℕ) → 1 ≤ n → n * lo ≤ d → lo ≤ d / n
quotient_above d n lo s h = le-div lo d n s (omega arith)

below_of : (q hi n : ℕ) → n * q < n * hi → q < hi
below_of q hi n h = elim (cases_lt q hi) [
  | inl l ↦ l
  | inr l ↦ let e = mul-le-mul_left n l in absurd (omega (arith, e))
]

quotient_below : (d n hi : ℕ) → 1 ≤ n → d ≤ n * hi → (d / n ≤ hi) × (0 < d % n → d / n < hi)
quotient_below d n hi s h =
    let e = div-add-mod' d n in (
      elim (cases_lt hi (d / n)) [
        | inl l ↦ let f = mul-le-mul_left n l in absurd (omega (arith, e, f, s))
        | inr l ↦ l
      ],
      λ r. below_of (d / n) hi n (omega (arith, e, r)),
    )

pub part_above : (b : Bounds) (d n k : ℕ) → IsAllowed b d n → k < n → b.min_duration ≤ part d n k
unfolding part
part_above b d n k h l = let q = quotient_above d n b.min_duration (omega arith) h.fit in omega (arith, q)

pub part_below : (b : Bounds) (d n k : ℕ) → IsAllowed b d n → k < n → part d n k ≤ b.max_duration
unfolding part
part_below b d n k h l =
    let q = quotient_below d n b.max_duration (omega arith) h.fill in by (nat_lt k (d % n)) refl q
  where
    by : (c : Bool) → nat_lt k (d % n) ≡ c → (d / n ≤ b.max_duration) × (0 < d % n → d / n < b.max_duration)
        → d / n + cond c 1 0 ≤ b.max_duration
    by true e q =
        let m : k < d % n = grind (arith, nat_tests) in
        let z = q.1 (omega (arith, m)) in omega (arith, z)
    by false e q = let z = q.0 in omega (arith, z)
