-- Whether totals come to be lower than others, found without measuring all that wait: those that deviate now are
-- measured first, and what the others cost then only adds to that.
use Rattle.std.proofs.Common.{ℕ, ◌≡◌, ◌≢◌, ◌<◌, ◌≤◌, ◌+◌, ◌⊎◌, inl, inr, Bool, true, false, cond, Option, Some, None, List, []}
use Rattle.std.proofs.Common.{◌∷◌, ◌++◌, length, get_or, set, slice_get, take, drop, refl, sym, ap, ◌∙◌, subst, arith, nat_eq, take-append-drop, zero-add}
use Rattle.std.specs.List.{range_with_len}
use Rattle.std.specs.Option.{option_map, option_map_or}
use Rattle.std.proofs.Math.Dec.{eqb}
use Rattle.std.proofs.lemmas.Bool.Decides.{eqb_tells, nat_tests}
use Rattle.std.proofs.lemmas.List.{get_or-set_other, get_or_past, length-map, length-set, take_more}
use Rattle.std.proofs.lemmas.List.FromFn.{get_or-map-range_with_len, length-range_with_len}
use Rattle.std.proofs.lemmas.List.Sums.{sum_by-append, sum_by-le-sum_by}
use Rattle.std.proofs.lemmas.Option.{get_or_from_slice_get, slice_get-get_or, slice_get_within}
use Rattle.khe_base.proofs.ListLemmas.{IsThere, get-set, get-other, mapped-there, there}
use Rattle.khe_base.specs.Costs.{cost_of}
use Rattle.khe_base.specs.Totals.{is_lower}
use Rattle.khe_base.specs.declared.costs.CostFn.{CostFn}
use Rattle.khe_base.specs.declared.costs.CostFn.TheVariants.{Linear, Quadratic, Step}
use Rattle.khe_base.specs.declared.numbers.MonitorId.{MonitorId}
use Rattle.khe_base.specs.declared.sums.Totals.{Totals}
use Rattle.khe_instance.specs.Costs.{cost_at, costs_of, is_hard_at, monitor_cost, totals_of}
use Rattle.khe_instance.specs.declared.parts.Parts.{Parts}
use Rattle.khe_instance.specs.declared.rules.Constraint.{Constraint}
use Rattle.khe_instance.specs.declared.points.Monitor.{Monitor}
use Rattle.khe_told.specs.Agreement.{deviation_in}
use Rattle.khe_told.specs.Waits.{AreListedOnce}
use Rattle.khe_told.specs.declared.slots.Slot.{Slot}
use Rattle.monitor_graph.specs.Boards.{Board, deviations_of}
use Rattle.monitor_graph.specs.Trials.{AreTotalsWith, IsStill}
use Rattle.monitor_graph.specs.Values.{IsOf, is_detached}
use Rattle.monitor_graph.proofs.TrialLaws.{totals_with}
use Rattle.khe_engine.specs.Settled.{AreMeasured}
use Rattle.khe_engine.specs.Lower.{AreBegun, AreOpen, kept, often}
use Rattle.khe_engine.specs.States.{state_of}
use Rattle.khe_engine.specs.Values.{deviations_in, totals}
use Rattle.khe_engine.proofs.SettleLaws.{another_waits, measured_one, value_of}
use Rattle.khe_engine.proofs.TrialLaws.{as_long}
use Rattle.khe_engine.proofs.ValueLaws.{values_all}

last_one : (k : ℕ) (xs : List MonitorId) (m : MonitorId)
    → often (xs ++ m ∷ []) k ≡ often xs k + cond {A = ℕ} (nat_eq m.0 k) 1 0
last_one k xs m = sum_by-append (λ (n : MonitorId). cond {A = ℕ} (nat_eq n.0 k) 1 0) xs (m ∷ [])
    ∙ ap (λ n. often xs k + n) (zero-add (cond {A = ℕ} (nat_eq m.0 k) 1 0))

own_number : (k : ℕ) → nat_eq k k ≡ true
own_number k = grind (arith, nat_tests)

other_number : (a b : ℕ) → b ≢ a → nat_eq a b ≡ false
other_number a b h = grind (arith, nat_tests, h)

-- who is not in a list is in it with no other at its end
stays : (k : ℕ) (m : MonitorId) (xs : List MonitorId) → often xs k ≡ 0 → k ≢ m.0 → often (xs ++ m ∷ []) k ≡ 0
stays k m xs z other =
    let a = last_one k xs m in
    let c : cond {A = ℕ} (nat_eq m.0 k) 1 0 ≡ 0 = ap (λ x. cond {A = ℕ} x 1 0) (other_number m.0 k other) in
    omega (arith, a, c, z)

pub begun_start : (p : Parts) (s : List Slot) (b : Board) (t : Totals) → IsOf b p
    → AreTotalsWith b.lines (deviations_of b) t → AreBegun p s b [] t
begun_start p s b t of e = record {
  ds = deviations_of b;
  long = as_long p b of;
  totals_ = e;
  still = λ k h. refl;
  right = λ k m at some now. absurd (some refl);
}

-- one that does not deviate now is passed over
pub begun_passed : (p : Parts) (s : List Slot) (b : Board) (done : List MonitorId) (t : Totals) (m : MonitorId)
    → kept b m.0 ≡ 0 → AreBegun p s b done t → AreBegun p s b (done ++ m ∷ []) t
begun_passed p s b done t m none h = record {
  ds = h.ds;
  long = h.long;
  totals_ = h.totals_;
  still = λ k e. h.still k (before k e);
  right = λ k q at some now. h.right k q at (λ z. now (by k z some (eqb_tells k m.0))) now;
}
  where
    before : (k : ℕ) → (often (done ++ m ∷ []) k ≡ 0) ⊎ (kept b k ≡ 0) → (often done k ≡ 0) ⊎ (kept b k ≡ 0)
    before k (inl e) = let a = last_one k done m in inl (omega (arith, a, e))
    before k (inr e) = inr e

    by : (k : ℕ) → often done k ≡ 0 → often (done ++ m ∷ []) k ≢ 0
        → ((eqb k m.0 ≡ true) × (k ≡ m.0)) ⊎ ((eqb k m.0 ≡ false) × (k ≢ m.0)) → kept b k ≡ 0
    by k z some (inl e) = ap (kept b) e.1 ∙ none
    by k z some (inr e) = absurd (some (stays k m done z e.1))

-- one that deviates now is measured
pub begun_more : (p : Parts) (s : List Slot) (b : Board) (done : List MonitorId) (t u : Totals) (m : MonitorId) (r : ℕ)
    → m.0 < length p.monitors → often done m.0 ≡ 0 → kept b m.0 ≢ 0
    → option_map (deviation_in p s) (slice_get p.monitors m.0) ≡ Some r
    → ((ds : List ℕ) → AreTotalsWith b.lines ds t → IsStill b.lines ds m.0 → AreTotalsWith b.lines (set ds m.0 r) u)
    → AreBegun p s b done t → AreBegun p s b (done ++ m ∷ []) u
begun_more p s b done t u m r known new some e shifted h = record {
  ds = set h.ds m.0 r;
  long = length-set h.ds m.0 r ∙ h.long;
  totals_ = shifted h.ds h.totals_ (h.still m.0 (inl new));
  still = λ k z. still k z (eqb_tells k m.0);
  right = λ k q at listed now. right k q at listed now (eqb_tells k m.0);
}
  where
    l : m.0 < length h.ds
    l = let a = h.long in omega (arith, known, a)

    still : (k : ℕ) → (often (done ++ m ∷ []) k ≡ 0) ⊎ (kept b k ≡ 0)
        → ((eqb k m.0 ≡ true) × (k ≡ m.0)) ⊎ ((eqb k m.0 ≡ false) × (k ≢ m.0)) → IsStill b.lines (set h.ds m.0 r) k
    still k (inl z) (inl q) =
        let a = last_one k done m in
        let c : cond {A = ℕ} (nat_eq m.0 k) 1 0 ≡ 1 = ap (λ x. cond {A = ℕ} x 1 0)
        (subst (λ n. nat_eq m.0 n ≡ true) (sym q.1) (own_number m.0)) in
        absurd (omega (arith, a, z, c))
    still k (inr z) (inl q) = absurd (some (sym (ap (kept b) q.1) ∙ z))
    still k (inl z) (inr q) = get_or-set_other h.ds m.0 k r 0 q.1
        ∙ h.still k (inl (let a = last_one k done m in omega (arith, a, z)))
    still k (inr z) (inr q) = get_or-set_other h.ds m.0 k r 0 q.1 ∙ h.still k (inr z)

    right : (k : ℕ) (q : Monitor) → slice_get p.monitors k ≡ Some q → often (done ++ m ∷ []) k ≢ 0 → kept b k ≢ 0
        → ((eqb k m.0 ≡ true) × (k ≡ m.0)) ⊎ ((eqb k m.0 ≡ false) × (k ≢ m.0))
        → slice_get (set h.ds m.0 r) k ≡ Some (deviation_in p s q)
    right k q at listed now (inl a) = ap (slice_get (set h.ds m.0 r)) a.1 ∙ get-set h.ds m.0 r l
        ∙ value_of p s q m.0 r (ap (slice_get p.monitors) (sym a.1) ∙ at) e
    right k q at listed now (inr a) = get-other h.ds m.0 k r (λ x. a.1 (sym x)) ∙ h.right k q at
        (λ z. listed (stays k m done z a.1)) now

at_most : (c : Bool) → cond {A = ℕ} c 1 0 ≤ 1
at_most true = omega arith
at_most false = omega arith

often_take : (n : ℕ) (xs : List MonitorId) (k : ℕ) → often (take n xs) k ≤ often xs k
often_take n xs k =
    let a = sum_by-append (λ (m : MonitorId). cond {A = ℕ} (nat_eq m.0 k) 1 0) (take n xs) (drop n xs) in
    let e = ap (λ ys. often ys k) (take-append-drop n xs) in
    omega (arith, a, e)

-- one of a list in which each is once is not before its place
pub not_before : (list : List MonitorId) (flags : List Bool) (i : ℕ) (d : MonitorId) → AreListedOnce list flags
    → i < length list → often (take i list) (get_or list i d).0 ≡ 0
not_before list flags i d h l =
    let m = get_or list i d in
    let a = last_one m.0 (take i list) m in
    let c : cond {A = ℕ} (nat_eq m.0 m.0) 1 0 ≡ 1 = ap (λ x. cond {A = ℕ} x 1 0) (own_number m.0) in
    let e : often (take (i + 1) list) m.0 ≡ often (take i list ++ m ∷ []) m.0 = ap (λ xs. often xs m.0) (take_more list i d l) in
    let f = often_take (i + 1) list m.0 in
    let g = h.once m.0 in
    let k = at_most (get_or flags m.0 false) in
    omega (arith, a, c, e, f, g, k)

-- and it waits
pub listed_waits : (list : List MonitorId) (flags : List Bool) (i : ℕ) (d : MonitorId) → AreListedOnce list flags
    → i < length list → get_or flags (get_or list i d).0 false ≡ true
listed_waits list flags i d h l = by (get_or flags (get_or list i d).0 false) refl
  where
    m : MonitorId
    m = get_or list i d

    by : (c : Bool) → get_or flags m.0 false ≡ c → get_or flags m.0 false ≡ true
    by true e = e
    by false e =
        let a = last_one m.0 (take i list) m in
        let c : cond {A = ℕ} (nat_eq m.0 m.0) 1 0 ≡ 1 = ap (λ x. cond {A = ℕ} x 1 0) (own_number m.0) in
        let f : often (take (i + 1) list) m.0 ≡ often (take i list ++ m ∷ []) m.0 =
        ap (λ xs. often xs m.0) (take_more list i d l) in
        let g = often_take (i + 1) list m.0 in
        let k : often list m.0 ≡ 0 = h.once m.0 ∙ ap (λ x. cond {A = ℕ} x 1 0) e in
        absurd (omega (arith, a, c, f, g, k))

pub open_start : (p : Parts) (s : List Slot) (b : Board) (t : Totals) (list : List MonitorId) (flags : List Bool)
    → IsOf b p → AreListedOnce list flags → AreMeasured p (λ k. get_or flags k false) s (deviations_of b)
    → AreBegun p s b list t → AreOpen p (λ k. get_or flags k false) s b t
open_start p s b t list flags of once measured h = record {
  ds = h.ds;
  long = h.long;
  totals_ = h.totals_;
  measured = λ k m at w.
      let l = slice_get_within p.monitors k m at in
      let n = h.long in
      slice_get-get_or h.ds k 0 (omega (arith, l, n))
      ∙ ap Some (h.still k (inl (once.once k ∙ ap (λ c. cond {A = ℕ} c 1 0) w))
      ∙ get_or_from_slice_get (deviations_of b) k (deviation_in p s m) 0 (measured k m at w));
  still = λ k w z. h.still k (inr z);
  right = λ k m at w z. h.right k m at (some k w) z;
}
  where
    some : (k : ℕ) → get_or flags k false ≡ true → often list k ≢ 0
    some k w z =
        let a = once.once k ∙ ap (λ c. cond {A = ℕ} c 1 0) w in
        absurd (omega (arith, a, z))

-- one that waited and was measured already
pub open_passed : (p : Parts) (s : List Slot) (b : Board) (t : Totals) (flags : List Bool) (k : ℕ)
    → k < length flags → get_or flags k false ≡ true → kept b k ≢ 0
    → AreOpen p (λ i. get_or flags i false) s b t → AreOpen p (λ i. get_or (set flags k false) i false) s b t
open_passed p s b t flags k l w now h = record {
  ds = h.ds;
  long = h.long;
  totals_ = h.totals_;
  measured = λ i m at v. by i m at v (eqb_tells i k);
  still = λ i v z. h.still i (another_waits flags k i l v).1 z;
  right = λ i m at v z. h.right i m at (another_waits flags k i l v).1 z;
}
  where
    by : (i : ℕ) (m : Monitor) → slice_get p.monitors i ≡ Some m → get_or (set flags k false) i false ≡ false
        → ((eqb i k ≡ true) × (i ≡ k)) ⊎ ((eqb i k ≡ false) × (i ≢ k)) → slice_get h.ds i ≡ Some (deviation_in p s m)
    by i m at v (inl e) = h.right i m at (ap (λ n. get_or flags n false) e.1 ∙ w) (λ z. now (sym (ap (kept b) e.1) ∙ z))
    by i m at v (inr e) = h.measured i m at (sym (get_or-set_other flags k i false false e.1) ∙ v)

-- one that waited is measured
pub open_more : (p : Parts) (s : List Slot) (b : Board) (t u : Totals) (flags : List Bool) (k r : ℕ)
    → k < length flags → k < length p.monitors
    → option_map (deviation_in p s) (slice_get p.monitors k) ≡ Some r → get_or flags k false ≡ true → kept b k ≡ 0
    → ((ds : List ℕ) → AreTotalsWith b.lines ds t → IsStill b.lines ds k → AreTotalsWith b.lines (set ds k r) u)
    → AreOpen p (λ i. get_or flags i false) s b t
    → AreOpen p (λ i. get_or (set flags k false) i false) s b u
open_more p s b t u flags k r l known e w none shifted h = record {
  ds = set h.ds k r;
  long = length-set h.ds k r ∙ h.long;
  totals_ = shifted h.ds h.totals_ (h.still k w none);
  measured = measured_one p s h.ds flags k r h.long known e h.measured;
  still = λ i v z.
      let a = another_waits flags k i l v in
      get_or-set_other h.ds k i r 0 a.0 ∙ h.still i a.1 z;
  right = λ i m at v z.
      let a = another_waits flags k i l v in
      get-other h.ds k i r (λ q. a.0 (sym q)) ∙ h.right i m at a.1 z;
}

-- where none waits all were measured
pub open_done : (p : Parts) (waits : ℕ → Bool) (s : List Slot) (b : Board) (t : Totals) → IsOf b p
    → ((k : ℕ) → waits k ≡ false) → AreOpen p waits s b t → t ≡ totals p (state_of s b)
open_done p waits s b t of none h = totals_with b p h.ds t of h.totals_
    ∙ ap (λ ds. totals_of p (costs_of p (is_detached b) ds))
    (values_all p s h.ds h.long (λ i m at. h.measured i m at (none i)))

no_cost : (f : CostFn) (w : ℕ) → cost_of f w 0 ≡ 0
no_cost Linear w = omega arith
no_cost Quadratic w = omega arith
no_cost Step w = refl

-- a monitor that does not deviate costs nothing
free_cost : (p : Parts) (off : Bool) (m : Monitor) → monitor_cost p off m 0 ≡ 0
free_cost p true m = refl
free_cost p false m = by (slice_get p.constraints m.constraint)
  where
    by : (o : Option Constraint) → option_map_or (λ (c : Constraint). cost_of c.cost c.weight 0) o 0 ≡ 0
    by None = refl
    by (Some c) = no_cost c.cost c.weight

-- totals of lower costs are not higher
lower_totals : (p : Parts) (off : ℕ → Bool) (ds es : List ℕ)
    → ((n : ℕ) → n < length p.monitors → cost_at p off ds n ≤ cost_at p off es n)
    → ((totals_of p (costs_of p off ds)).hard ≤ (totals_of p (costs_of p off es)).hard)
    × ((totals_of p (costs_of p off ds)).soft ≤ (totals_of p (costs_of p off es)).soft)
lower_totals p off ds es h = (
  sum_by-le-sum_by (λ n. cond {A = ℕ} (is_hard_at p n) (get_or (costs_of p off ds) n 0) 0)
      (λ n. cond {A = ℕ} (is_hard_at p n) (get_or (costs_of p off es) n 0) 0) (range_with_len 0 (length p.monitors))
      (λ n. first (is_hard_at p n) (each n)),
  sum_by-le-sum_by (λ n. cond {A = ℕ} (is_hard_at p n) 0 (get_or (costs_of p off ds) n 0))
      (λ n. cond {A = ℕ} (is_hard_at p n) 0 (get_or (costs_of p off es) n 0)) (range_with_len 0 (length p.monitors))
      (λ n. second (is_hard_at p n) (each n)),
)
  where
    cost_in : (xs : List ℕ) (n : ℕ) → n < length p.monitors → get_or (costs_of p off xs) n 0 ≡ cost_at p off xs n
    cost_in xs n l = get_or-map-range_with_len (cost_at p off xs) 0 (length p.monitors) n n 0 l (zero-add n)

    many : (xs : List ℕ) → length (costs_of p off xs) ≡ length p.monitors
    many xs = length-map (range_with_len 0 (length p.monitors)) (cost_at p off xs)
        ∙ length-range_with_len 0 (length p.monitors)

    each : (n : ℕ) → get_or (costs_of p off ds) n 0 ≤ get_or (costs_of p off es) n 0
    each n = by (grind arith)
      where
        by : (n < length p.monitors) ⊎ (length p.monitors ≤ n)
            → get_or (costs_of p off ds) n 0 ≤ get_or (costs_of p off es) n 0
        by (inl l) = let a = cost_in ds n l in let b = cost_in es n l in let c = h n l in omega (arith, a, b, c)
        by (inr l) =
            let m = many ds in
            let a = get_or_past (costs_of p off ds) n 0 (omega (arith, l, m)) in
            omega (arith, a)

    first : (c : Bool) {a b : ℕ} → a ≤ b → cond {A = ℕ} c a 0 ≤ cond {A = ℕ} c b 0
    first true l = l
    first false l = omega arith

    second : (c : Bool) {a b : ℕ} → a ≤ b → cond {A = ℕ} c 0 a ≤ cond {A = ℕ} c 0 b
    second true l = omega arith
    second false l = l

-- what is not lower is not lower with more
not_lower : (t u v : Totals) → t.hard ≤ u.hard → t.soft ≤ u.soft → is_lower t v ≡ false → is_lower u v ≡ false
not_lower t u v a b h = grind (arith, nat_tests, a, b, h)

-- those that are not measured only add to the totals
pub open_least : (p : Parts) (waits : ℕ → Bool) (s : List Slot) (b : Board) (t lowest : Totals) → IsOf b p
    → AreOpen p waits s b t → is_lower t lowest ≡ false → is_lower (totals p (state_of s b)) lowest ≡ false
unfolding deviations_in
open_least p waits s b t lowest of h high =
    not_lower t (totals p (state_of s b)) lowest
    (subst (λ (u : Totals). u.hard ≤ (totals p (state_of s b)).hard) (sym whole) least.0)
    (subst (λ (u : Totals). u.soft ≤ (totals p (state_of s b)).soft) (sym whole) least.1) high
  where
    off : ℕ → Bool
    off = is_detached b

    whole : t ≡ totals_of p (costs_of p off h.ds)
    whole = totals_with b p h.ds t of h.totals_

    at : ℕ → ℕ → ℕ
    at n d = option_map_or (λ (m : Monitor). monitor_cost p (off n) m d) (slice_get p.monitors n) 0

    free : (n : ℕ) → at n 0 ≡ 0
    free n = by (slice_get p.monitors n)
      where
        by : (o : Option Monitor) → option_map_or (λ (m : Monitor). monitor_cost p (off n) m 0) o 0 ≡ 0
        by None = refl
        by (Some m) = free_cost p (off n) m

    each : (n : ℕ) → n < length p.monitors → at n (get_or h.ds n 0) ≤ at n (get_or (deviations_in p s) n 0)
    each n l = by (waits n) refl (eqb_tells (kept b n) 0)
      where
        m : IsThere p.monitors n
        m = there p.monitors n l

        last : get_or (deviations_in p s) n 0 ≡ deviation_in p s m.value
        last = mapped-there (deviation_in p s) p.monitors n m.value 0 m.found

        same : slice_get h.ds n ≡ Some (deviation_in p s m.value)
            → at n (get_or h.ds n 0) ≤ at n (get_or (deviations_in p s) n 0)
        same e =
            let a = ap (at n) (get_or_from_slice_get h.ds n (deviation_in p s m.value) 0 e ∙ sym last) in
            omega (arith, a)

        by : (c : Bool) → waits n ≡ c
            → ((eqb (kept b n) 0 ≡ true) × (kept b n ≡ 0)) ⊎ ((eqb (kept b n) 0 ≡ false) × (kept b n ≢ 0))
            → at n (get_or h.ds n 0) ≤ at n (get_or (deviations_in p s) n 0)
        by false w e = same (h.measured n m.value m.found w)
        by true w (inl e) = let a = ap (at n) (h.still n w e.1 ∙ e.1) ∙ free n in omega (arith, a)
        by true w (inr e) = same (h.right n m.value m.found w e.1)

    least : ((totals_of p (costs_of p off h.ds)).hard ≤ (totals p (state_of s b)).hard)
        × ((totals_of p (costs_of p off h.ds)).soft ≤ (totals p (state_of s b)).soft)
    least = lower_totals p off h.ds (deviations_in p s) each
