-- Bounds that several lists of durations keep; and the parts of a duration are the whole.
use Rattle.std.proofs.Common.{ℕ, zero, suc, ◌≡◌, ◌+◌, ◌-◌, ◌*◌, ◌/◌, ◌%◌, ◌<◌, ◌≤◌, Bool, true, false, cond, min, max}
use Rattle.std.proofs.Common.{List, [], ◌∷◌, length, map, refl, sym, ap, ◌∙◌, arith, subst, inl, inr}
use Rattle.std.specs.List.{fold, range_with_len, sum_by}
use Rattle.std.specs.Prelude.{All, nat_lt, sum}
use Rattle.std.proofs.lemmas.Bool.{cases_lt, lt-ltb, le-ltb}
use Rattle.std.proofs.lemmas.List.Elements.{All-nil, All-cons, All-head, All-tail, All-map, All-weaker, All-from_get_or}
use Rattle.std.proofs.lemmas.List.FromFn.{length-map-range_with_len, get_or-map-range_with_len, map-range_with_len_more}
use Rattle.std.proofs.lemmas.List.Sums.{sum_by-cons}
use Rattle.std.proofs.lemmas.List.FromFn.{sum_by-map-range_with_len_more}
use Rattle.std.proofs.Math.Nat.{mul-le-mul_left}
use Rattle.construct.proofs.CutLaws.{IsAllowed, IsAmount, part_above, part_below}
use Rattle.construct.specs.declared.bounds.Bounds.{Bounds}
use Rattle.construct.specs.Cuts.{Keeps, narrowed, part, parts, widest}

abbrev IsIn : Bounds → ℕ → Type 0
IsIn b d = (b.min_duration ≤ d) × (d ≤ b.max_duration)

-- two bounds at once
pub keeps_both : (x y : Bounds) (ds : List ℕ) → Keeps x ds → Keeps y ds → Keeps (narrowed x y) ds
unfolding narrowed
keeps_both x y ds h k = record {
  least = let a = h.least in let b = k.least in omega (arith, a, b);
  most = let a = h.most in let b = k.most in omega (arith, a, b);
  each = λ j d l. (let a = h.each j d l in let b = k.each j d l in (omega (arith, a, b), omega (arith, a, b)));
}

pub keeps_first : (x y : Bounds) (ds : List ℕ) → Keeps (narrowed x y) ds → Keeps x ds
unfolding narrowed
keeps_first x y ds h = record {
  least = let a = h.least in omega (arith, a);
  most = let a = h.most in omega (arith, a);
  each = λ j d l. (let a = h.each j d l in (omega (arith, a), omega (arith, a)));
}

pub keeps_second : (x y : Bounds) (ds : List ℕ) → Keeps (narrowed x y) ds → Keeps y ds
unfolding narrowed
keeps_second x y ds h = record {
  least = let a = h.least in omega (arith, a);
  most = let a = h.most in omega (arith, a);
  each = λ j d l. (let a = h.each j d l in (omega (arith, a), omega (arith, a)));
}

-- all of a list at once
pub keeps_all : (w : Bounds) (bs : List Bounds) (ds : List ℕ) → Keeps w ds → All (λ b. Keeps b ds) bs
    → Keeps (fold narrowed w bs) ds
keeps_all w [] ds h k = h
keeps_all w (b ∷ bs) ds h k =
    keeps_all (narrowed w b) bs ds (keeps_both w b ds h (All-head (λ c. Keeps c ds) b bs k))
    (All-tail (λ c. Keeps c ds) b bs k)

pub keeps_start : (w : Bounds) (bs : List Bounds) (ds : List ℕ) → Keeps (fold narrowed w bs) ds → Keeps w ds
keeps_start w [] ds h = h
keeps_start w (b ∷ bs) ds h = keeps_first w b ds (keeps_start (narrowed w b) bs ds h)

pub keeps_each : (w : Bounds) (bs : List Bounds) (ds : List ℕ) → Keeps (fold narrowed w bs) ds
    → All (λ b. Keeps b ds) bs
keeps_each w [] ds h = All-nil (λ c. Keeps c ds)
keeps_each w (b ∷ bs) ds h =
    All-cons (λ c. Keeps c ds) b bs (keeps_second w b ds (keeps_start (narrowed w b) bs ds h))
    (keeps_each (narrowed w b) bs ds h)

-- no meet is shorter than 1
pub at_least_one : (w : Bounds) (bs : List Bounds) → 1 ≤ w.min_duration → 1 ≤ (fold narrowed w bs).min_duration
unfolding narrowed
at_least_one w [] h = h
at_least_one w (b ∷ bs) h = at_least_one (narrowed w b) bs (omega (arith, h))

-- durations within bounds are so many that they may be cut
sums_above : (lo : ℕ) (ds : List ℕ) → All (λ d. lo ≤ d) ds → length ds * lo ≤ sum ds
sums_above lo [] h = omega arith
sums_above lo (d ∷ ds) h =
    let a = All-head (λ c. lo ≤ c) d ds h in
    let b = sums_above lo ds (All-tail (λ c. lo ≤ c) d ds h) in
    let e = sum_by-cons (λ (x : ℕ). x) d ds in
    omega (arith, a, b, e)

sums_below : (hi : ℕ) (ds : List ℕ) → All (λ d. d ≤ hi) ds → sum ds ≤ length ds * hi
sums_below hi [] h = omega arith
sums_below hi (d ∷ ds) h =
    let a = All-head (λ c. c ≤ hi) d ds h in
    let b = sums_below hi ds (All-tail (λ c. c ≤ hi) d ds h) in
    let e = sum_by-cons (λ (x : ℕ). x) d ds in
    omega (arith, a, b, e)

pub keeps_allowed : (b : Bounds) (d : ℕ) (ds : List ℕ) → sum ds ≡ d → Keeps b ds → IsAllowed b d (length ds)
keeps_allowed b d ds e h = record {
  least = h.least;
  most = h.most;
  fit = let a = sums_above b.min_duration ds (λ j x l. (h.each j x l).0) in omega (arith, a, e);
  fill = let a = sums_below b.max_duration ds (λ j x l. (h.each j x l).1) in omega (arith, a, e);
}

-- and the parts keep the bounds that allow as many
pub allowed_keeps : (b : Bounds) (d n : ℕ) → IsAllowed b d n → Keeps b (parts d n)
unfolding parts
allowed_keeps b d n h =
    let many = length-map-range_with_len (part d n) 0 n in
    let each : All (IsIn b) (parts d n) = All-from_get_or (IsIn b) (map (part d n) (range_with_len 0 n)) 0
    (λ k l. (let low : k < n = omega (arith, l, many) in
    subst (IsIn b) (sym (get_or-map-range_with_len (part d n) 0 n k k 0 low (omega arith)))
    (part_above b d n k h low, part_below b d n k h low))) in
    record {
      least = let a = h.least in omega (arith, a, many);
      most = let a = h.most in omega (arith, a, many);
      each = each;
    }

-- any durations that add up to the whole keep the widest bounds
each_below : (ds : List ℕ) → All (λ d. d ≤ sum ds) ds
each_below [] = All-nil (λ d. d ≤ 0)
each_below (d ∷ ds) =
    let e = sum_by-cons (λ (x : ℕ). x) d ds in
    All-cons (λ c. c ≤ sum (d ∷ ds)) d ds (omega (arith, e))
    (All-weaker (λ c. c ≤ sum ds) (λ c. c ≤ sum (d ∷ ds)) (λ c l. omega (arith, l, e)) ds (each_below ds))

some_there : (ds : List ℕ) → 1 ≤ sum ds → 1 ≤ length ds
some_there [] h = absurd (omega (arith, h))
some_there (d ∷ ds) h = omega arith

pub keeps_widest : (d : ℕ) (ds : List ℕ) → 1 ≤ d → sum ds ≡ d → All (λ x. 1 ≤ x) ds → Keeps (widest d) ds
unfolding widest
keeps_widest d ds l e h =
    let a = sums_above 1 ds h in
    let below = each_below ds in
    record {
      least = some_there ds (omega (arith, l, e));
      most = omega (arith, a, e);
      each = λ j x k. (h j x k, (let z = below j x k in omega (arith, z, e)));
    }

-- what the slot with a number has of a duration that is cut into n parts
abbrev pub share : ℕ → ℕ → ℕ → ℕ
share d n k = cond (nat_lt k n) (part d n k) 0

share_in : (d n k : ℕ) → k < n → share d n k ≡ d / n + cond (nat_lt k (d % n)) 1 0
unfolding part
share_in d n k l = ap (λ c. cond c (d / n + cond (nat_lt k (d % n)) 1 0) 0) (lt-ltb k n l)

share_out : (d n k : ℕ) → n ≤ k → share d n k ≡ 0
share_out d n k l = ap (λ c. cond c (part d n k) 0) (le-ltb k n l)

one_in : (k r : ℕ) → min k r + cond (nat_lt k r) 1 0 ≡ min (k + 1) r
one_in k r = elim (cases_lt k r) [
  | inl l ↦ let e : cond (nat_lt k r) 1 0 ≡ 1 = ap {B = ℕ} (λ c. cond c 1 0) (lt-ltb k r l) in omega (arith, l, e)
  | inr l ↦ let e : cond (nat_lt k r) 1 0 ≡ 0 = ap {B = ℕ} (λ c. cond c 1 0) (le-ltb k r l) in omega (arith, l, e)
]

-- the first n shares
abbrev shares : ℕ → ℕ → ℕ → ℕ
shares d n k = sum_by (share d n) (map (λ j. j) (range_with_len 0 k))

shares_more : (d n k : ℕ) → shares d n (k + 1) ≡ shares d n k + share d n k
shares_more d n k = sum_by-map-range_with_len_more (share d n) (λ j. j) 0 k k (omega arith)

shares_in : (d n k : ℕ) → k ≤ n → shares d n k ≡ k * (d / n) + min k (d % n)
shares_in d n zero l = omega arith
shares_in d n (suc k) l =
    let e = shares_in d n k (omega arith) in
    let m = shares_more d n k in
    let s = share_in d n k (omega arith) in
    let o = one_in k (d % n) in
    let i : suc k ≡ k + 1 = omega arith in let j : shares d n (suc k) ≡ shares d n (k + 1) = ap (shares d n) i in
    omega (arith, e, m, s, o, j)

shares_out : (d n j : ℕ) → 1 ≤ n → shares d n (n + j) ≡ d
shares_out d n zero l =
    let e = shares_in d n n (omega arith) in
    let i : n + 0 ≡ n = omega arith in let j : shares d n (n + 0) ≡ shares d n n = ap (shares d n) i in
    omega (arith, e, j, l)
shares_out d n (suc j) l =
    let e = shares_out d n j l in
    let m = shares_more d n (n + j) in
    let s = share_out d n (n + j) (omega arith) in
    let z : n + suc j ≡ n + j + 1 = omega arith in let i : shares d n (n + suc j) ≡ shares d n (n + j + 1) = ap (shares d n) z in
    omega (arith, e, m, s, i)

-- all slots of an event have the whole
pub shares_whole : (d n : ℕ) → IsAmount d n → shares d n d ≡ d
shares_whole d n h =
    let a = h.few in
    let z : d ≡ n + (d - n) = omega (arith, a) in let i : shares d n d ≡ shares d n (n + (d - n)) = ap (shares d n) z in
    i ∙ shares_out d n (d - n) h.some
