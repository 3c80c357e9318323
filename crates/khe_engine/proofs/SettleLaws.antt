-- Monitors that wait, and the deviations of all others: after the families turned, when one that waits is
-- measured, and when none waits.
use Rattle.std.proofs.Common.{ℕ, ◌≡◌, ◌<◌, ◌≤◌, ◌⊎◌, ◌≢◌, inl, inr, Bool, true, false, cond, Some, List, [], ◌∷◌}
use Rattle.std.proofs.Common.{length, get_or, set, slice_get, refl, sym, ap, ◌∙◌, subst, arith, ◌+◌, zero, suc}
use Rattle.std.specs.List.{count_by, sum_by}
use Rattle.std.specs.Option.{option_map}
use Rattle.std.specs.Prelude.{IfOk, IfSome, Option, None, Result, Ok, Err, replicate}
use Rattle.std.proofs.Math.Dec.{eqb}
use Rattle.std.proofs.lemmas.Bool.{both_ways}
use Rattle.std.proofs.lemmas.Bool.Decides.{eqb_tells}
use Rattle.std.proofs.lemmas.List.{get_or-set_same, get_or-set_other, length-replicate}
use Rattle.std.proofs.lemmas.List.Sums.{sum_by-cons}
use Rattle.std.proofs.lemmas.Option.{get_or_from_slice_get}
use Rattle.khe_base.proofs.ListLemmas.{get-set, get-other}
use Rattle.khe_instance.specs.declared.parts.Parts.{Parts}
use Rattle.khe_instance.specs.declared.points.Monitor.{Monitor}
use Rattle.khe_instance.specs.declared.rules.Kind.{Kind}
use Rattle.khe_instance.proofs.DutiesLemmas.{sum_by-plus}
use Rattle.khe_told.specs.Agreement.{deviation_in}
use Rattle.khe_told.specs.Changes.{after, meet_of}
use Rattle.khe_told.specs.Slots.{slot_at}
use Rattle.khe_told.specs.Waits.{AreUnmoved, Waiters, waits_in}
use Rattle.khe_told.specs.Watchers.{AreWatchersOf, watch_count, watch_counts, watcher_count, watcher_counts}
use Rattle.khe_told.specs.declared.changes.Change.{Change}
use Rattle.khe_told.specs.declared.slots.Slot.{Slot}
use Rattle.monitor_graph.specs.Boards.{Board, deviations_of}
use Rattle.khe_engine.specs.Settled.{AreMeasured, IsIdle}
use Rattle.khe_engine.specs.Values.{HasValues, ServesAll}
use Rattle.khe_engine.proofs.ValueLaws.{value_at}

-- a graph that had the values still has those of who does not wait
pub left_measured : (p : Parts) (served : Kind → Bool) (waits : ℕ → Bool) (s t : List Slot) (b : Board)
    → ServesAll served
    → HasValues p s b → AreUnmoved p served waits s t → AreMeasured p waits t (deviations_of b)
left_measured p served waits s t b all h unmoved i m at w = value_at p s b i m h at
    ∙ ap Some (sym (unmoved i m at (all m.kind) w))

-- where every kind is served, that of each monitor is
pub served_all : (served : Kind → Bool) (o : Option Monitor) → ServesAll served
    → IfSome o (λ (m : Monitor). served m.kind ≡ true)
served_all served None all = tt
served_all served (Some m) all = all m.kind

-- one that waits is measured
pub value_of : (p : Parts) (s : List Slot) (m : Monitor) (k r : ℕ) → slice_get p.monitors k ≡ Some m
    → option_map (deviation_in p s) (slice_get p.monitors k) ≡ Some r → Some r ≡ Some (deviation_in p s m)
value_of p s m k r at e = sym e ∙ ap (option_map (deviation_in p s)) at

pub measured_one : (p : Parts) (s : List Slot) (ds : List ℕ) (flags : List Bool) (k r : ℕ)
    → length ds ≡ length p.monitors → k < length p.monitors
    → option_map (deviation_in p s) (slice_get p.monitors k) ≡ Some r
    → AreMeasured p (λ i. get_or flags i false) s ds
    → AreMeasured p (λ i. get_or (set flags k false) i false) s (set ds k r)
measured_one p s ds flags k r long l e h i m at w = go (eqb_tells k i)
  where
    go : ((eqb k i ≡ true) × (k ≡ i)) ⊎ ((eqb k i ≡ false) × (k ≢ i))
        → slice_get (set ds k r) i ≡ Some (deviation_in p s m)
    go (inl a) = ap (slice_get (set ds k r)) (sym a.1) ∙ get-set ds k r (omega (arith, l, long))
        ∙ value_of p s m k r (ap (slice_get p.monitors) a.1 ∙ at) e
    go (inr b) = get-other ds k i r b.1
        ∙ h i m at (sym (get_or-set_other flags k i false false (λ q. b.1 (sym q))) ∙ w)

-- one more is measured, in the order of their numbers
pub set_more : (p : Parts) (s : List Slot) (ds : List ℕ) (n r : ℕ) → length ds ≡ length p.monitors → n < length p.monitors
    → option_map (deviation_in p s) (slice_get p.monitors n) ≡ Some r
    → ((i : ℕ) (m : Monitor) → i < n → slice_get p.monitors i ≡ Some m → slice_get ds i ≡ Some (deviation_in p s m))
    → (i : ℕ) (m : Monitor) → i < n + 1 → slice_get p.monitors i ≡ Some m
    → slice_get (set ds n r) i ≡ Some (deviation_in p s m)
set_more p s ds n r long l e h i m below at = go (eqb_tells n i)
  where
    go : ((eqb n i ≡ true) × (n ≡ i)) ⊎ ((eqb n i ≡ false) × (n ≢ i))
        → slice_get (set ds n r) i ≡ Some (deviation_in p s m)
    go (inl a) = ap (slice_get (set ds n r)) (sym a.1) ∙ get-set ds n r (omega (arith, l, long))
        ∙ value_of p s m n r (ap (slice_get p.monitors) a.1 ∙ at) e
    go (inr b) = get-other ds n i r b.1 ∙ h i m (let other = b.1 in omega (arith, below, other)) at

-- who waits after that is another
pub another_waits : (flags : List Bool) (k i : ℕ) → k < length flags → get_or (set flags k false) i false ≡ true
    → (i ≢ k) × (get_or flags i false ≡ true)
another_waits flags k i l w = go (eqb_tells k i)
  where
    go : ((eqb k i ≡ true) × (k ≡ i)) ⊎ ((eqb k i ≡ false) × (k ≢ i)) → (i ≢ k) × (get_or flags i false ≡ true)
    go (inl a) = absurd (both_ways (get_or (set flags k false) i false)
        (ap (λ n. get_or (set flags k false) n false) (sym a.1) ∙ get_or-set_same flags k false false l) w)
    go (inr b) = (
      λ q. b.1 (sym q),
      sym (get_or-set_other flags k i false false (λ q. b.1 (sym q))) ∙ w,
    )

-- how often all monitors watch changes, together
counts_sum : (p : Parts) (s : List Slot) (cs : List Change)
    → sum_by (watch_counts p s cs) p.monitors ≡ watcher_counts p s cs
unfolding watcher_count
counts_sum p s [] = none p.monitors
  where
    none : (ms : List Monitor) → sum_by (λ m. 0) ms ≡ 0
    none [] = refl
    none (m ∷ ms) =
        let a = sum_by-cons (λ (x : Monitor). 0) m ms in
        let b = none ms in
        omega (arith, a, b)
counts_sum p s (c ∷ cs) =
    let first = watch_count p (slot_at s (meet_of c)) c in
    sum_by-plus first (watch_counts p (after s c) cs) p.monitors
    ∙ ap (λ n. sum_by first p.monitors + n) (counts_sum p (after s c) cs)

-- 1 for true, and 0 for false
abbrev one_if : Bool → ℕ
one_if b = cond {A = ℕ} b 1 0

-- where each flag is of something that counts, there are no more flags than the counts together
flags_few : {A : Type 0} (f : A → ℕ) (flags : List Bool) (xs : List A) → length flags ≡ length xs
    → ((i : ℕ) → get_or flags i false ≡ true → (x : A) × (slice_get xs i ≡ Some x) × (1 ≤ f x))
    → count_by (λ (b : Bool). b) flags ≤ sum_by f xs
flags_few {A} f [] xs long h = omega arith
flags_few {A} f (b ∷ bs) [] long h = absurd (omega (arith, long))
flags_few {A} f (b ∷ bs) (x ∷ xs) long h =
    let a = sum_by-cons one_if b bs in
    let d = sum_by-cons f x xs in
    let rest = flags_few f bs xs (omega (arith, long)) (λ i w. h (suc i) w) in
    let first : one_if b ≤ f x = one b (h 0) in
    omega (arith, a, d, rest, first)
  where
    one : (t : Bool) → (t ≡ true → (y : A) × (slice_get (x ∷ xs) 0 ≡ Some y) × (1 ≤ f y)) → one_if t ≤ f x
    one false g = omega arith
    one true g =
        let y = g refl in
        subst (λ (z : A). 1 ≤ f z) (sym (get_or_from_slice_get (x ∷ xs) 0 y.0 x y.1)) y.2

-- where nobody waited, no more wait after changes than these have watchers
pub watchers_few : (p : Parts) (s : List Slot) (cs : List Change) (old new : Waiters) → IsIdle p old
    → length new.flags ≡ length p.monitors → AreWatchersOf p s cs (waits_in old) (waits_in new)
    → new.amount ≡ count_by (λ (b : Bool). b) new.flags → new.amount ≤ watcher_counts p s cs
watchers_few p s cs old new idle long h amount =
    let a = flags_few (watch_counts p s cs) new.flags p.monitors long (λ i w. watcher i (h i w)) in
    let b = counts_sum p s cs in
    omega (arith, a, b, amount)
  where
    IsWatcher : ℕ → Type 0
    IsWatcher i = (m : Monitor) × (slice_get p.monitors i ≡ Some m) × (1 ≤ watch_counts p s cs m)

    watcher : (i : ℕ) → (waits_in old i ≡ true) ⊎ IsWatcher i → IsWatcher i
    watcher i (inl w) = absurd (both_ways (waits_in old i) (idle.none i) w)
    watcher i (inr t) = t

-- a list of the monitors that wait is opened
pub opened_idle : {E : Type 0} (p : Parts) (r : Result Waiters E) (n : ℕ) → n ≡ length p.monitors
    → IfOk r (λ w. w.flags ≡ replicate n false) → IfOk r (λ w. w.amount ≡ 0) → IfOk r (IsIdle p)
opened_idle p (Ok w) n many flags amount = record {
  long = ap length flags ∙ length-replicate n false ∙ many;
  amount = amount;
  none = λ k. ap (λ fs. get_or fs k false) flags ∙ none_of n k;
}
  where
    none_of : (i k : ℕ) → get_or (replicate i false) k false ≡ false
    none_of zero k = refl
    none_of (suc i) zero = refl
    none_of (suc i) (suc k) = none_of i k
opened_idle p (Err e) n many flags amount = tt
