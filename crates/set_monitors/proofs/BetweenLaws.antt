-- The first start and the last end of an event's meets, by the least of what its slots keep.
use Rattle.std.proofs.Common.{ℕ, ◌≡◌, ◌≤◌, ◌<◌, ◌+◌, ◌-◌, ◌==◌, ◌||◌, ◌∙◌, pos, Bool, true, false, cond, min, max}
use Rattle.std.proofs.Common.{Option, Some, None, List, [], ◌∷◌, filter_map, fold, map, refl, sym, ap, arith}
use Rattle.std.specs.Prelude.{◌-ℤ◌}
use Rattle.std.specs.List.{cons_option}
use Rattle.std.specs.Option.{option_map, option_map_or}
use Rattle.std.proofs.lemmas.Bool.{eq-eqb, ne_eqb}
use Rattle.std.proofs.lemmas.List.Elements.{All-head, All-tail}
use Rattle.khe_base.specs.Bounds.{outside}
use Rattle.khe_base.specs.declared.limits.TheConstants.{TIMES}
use Rattle.khe_base.specs.declared.numbers.TimeId.{TimeId}
use Rattle.khe_instance.specs.EventDeviation.{order_events, order_of}
use Rattle.khe_instance.specs.Running.{meets_of}
use Rattle.khe_instance.specs.declared.states.Meet.{Meet}
use Rattle.khe_told.specs.Lists.{meets_in}
use Rattle.khe_told.specs.declared.slots.Slot.{Slot}
use Rattle.khe_told.specs.declared.slots.Span.{Span}
use Rattle.set_monitors.specs.MeetEdges.{AreShort, IsEdges, IsShort, end_key, own_slots, start_key}
use Rattle.set_monitors.specs.OrderPairs.{between}
use Rattle.set_monitors.specs.declared.meet_edges.Edges.{Edges}
use Rattle.set_monitors.specs.declared.least_trees.TheConstants.{NOTHING}
use Rattle.khe_instance.proofs.EventBounds.{least_small}

-- a number of a meet with a start
abbrev num_at : (TimeId → ℕ → ℕ) → Option Span → Option ℕ
num_at g None = None
num_at g (Some y) = option_map (λ (t : TimeId). g t y.duration) y.start

abbrev first_num : TimeId → ℕ → ℕ
first_num t d = t.0

abbrev last_num : TimeId → ℕ → ℕ
last_num t d = t.0 + d

-- what is true of each
abbrev All_of : (ℕ → Type 0) → List ℕ → Type 0
All_of P [] = Unit {0}
All_of P (n ∷ ns) = P n × All_of P ns

-- those of an event's meets, by its slots
module _ (g : TimeId → ℕ → ℕ) (e : ℕ) where
  abbrev of_meet : Meet → Option ℕ
  of_meet m = option_map (λ (t : TimeId). g t m.duration) m.start

  abbrev of_slot : Slot → Option ℕ
  of_slot x = num_at g x.span

  own_nums : (s : List Slot) → filter_map of_meet (meets_of e (meets_in s)) ≡ filter_map of_slot (own_slots e s)
  own_nums [] = refl
  own_nums (x ∷ s) = by x.span (own_nums s)
    where
      none : (b : Bool) → filter_map of_slot (own_slots e s)
          ≡ filter_map of_slot (cond b (record x { span = None } ∷ own_slots e s) (own_slots e s))
      none true = refl
      none false = refl

      some : (y : Span) (b : Bool) (start : Option TimeId)
          → filter_map of_meet (meets_of e (meets_in s)) ≡ filter_map of_slot (own_slots e s)
          → filter_map of_meet (cond b (record {
            meet = x.meet;
            event = x.event;
            duration = y.duration;
            start =
                start;
          } ∷ meets_of e (meets_in s)) (meets_of e (meets_in s)))
          ≡ filter_map of_slot (cond b (record x {
            span =
                Some (record { duration = y.duration; start = start });
          } ∷ own_slots e s) (own_slots e s))
      some y false start r = r
      some y true None r = r
      some y true (Some t) r = ap (λ ns. g t y.duration ∷ ns) r

      by : (o : Option Span) → filter_map of_meet (meets_of e (meets_in s)) ≡ filter_map of_slot (own_slots e s)
          → filter_map of_meet (meets_of e (meets_in (record x { span = o } ∷ s)))
          ≡ filter_map of_slot (own_slots e (record x { span = o } ∷ s))
      by None r = r ∙ none (x.event.0 == e)
      by (Some y) r = some y (x.event.0 == e) y.start r

  each_num : (P : ℕ → Type 0) → ((t : TimeId) (d : ℕ) → 1 ≤ d → t.0 + d ≤ TIMES → P (g t d)) → (s : List Slot)
      → AreShort s → All_of P (filter_map of_slot (own_slots e s))
  each_num P h [] a = tt
  each_num P h (x ∷ s) a = by (x.event.0 == e) x.span (All-head (λ (x : Slot). IsShort x.span) x s a)
      (each_num P h s (All-tail (λ (x : Slot). IsShort x.span) x s a))
    where
      some : (d : ℕ) (start : Option TimeId) → IsShort (Some (record { duration = d; start = start }))
          → All_of P (filter_map of_slot (own_slots e s))
          → All_of P (filter_map of_slot (record x { span = Some (record { duration = d; start = start }) } ∷ own_slots
          e s))
      some d None b r = r
      some d (Some t) b r = (h t d b.0 b.1, r)

      by : (b : Bool) (o : Option Span) → IsShort o → All_of P (filter_map of_slot (own_slots e s))
          → All_of P (filter_map of_slot (cond b (record x { span = o } ∷ own_slots e s) (own_slots e s)))
      by false o i r = r
      by true None i r = r
      by true (Some y) i r = some y.duration y.start i r

-- the least of keys
abbrev key_of : (ℕ → ℕ) → Option ℕ → ℕ
key_of h o = option_map_or h o NOTHING

module _ (h : ℕ → ℕ) (f : Slot → Option ℕ) (key : Slot → ℕ) (same : (x : Slot) → key x ≡ key_of h (f x)) where
  key_fold : (n : ℕ) (xs : List Slot) → n ≤ NOTHING → fold min n (map key xs) ≡ fold min n (map h (filter_map f xs))
  key_fold n [] l = refl
  key_fold n (x ∷ xs) l = ap (λ k. fold min (min n k) (map key xs)) (same x) ∙ by (f x) (λ k i. key_fold k xs i)
    where
      by : (o : Option ℕ) → ((k : ℕ) → k ≤ NOTHING → fold min k (map key xs) ≡ fold min k (map h (filter_map f xs)))
          → fold min (min n (key_of h o)) (map key xs) ≡ fold min n (map h (cons_option o (filter_map f xs)))
      by None r = (let z : min n NOTHING ≡ n = omega (arith, l) in ap (λ k. fold min k (map key xs)) z) ∙ r n l
      by (Some v) r = r (min n (h v)) (omega (arith, l))

map_same : (ns : List ℕ) → map (λ (n : ℕ). n) ns ≡ ns
map_same [] = refl
map_same (n ∷ ns) = ap (λ t. n ∷ t) (map_same ns)

start_same : (x : Slot) → start_key x.span ≡ key_of (λ n. n) (num_at first_num x.span)
start_same x = by x.span
  where
    at : (start : Option TimeId) → option_map_or (λ (t : TimeId). t.0) start NOTHING
        ≡ key_of (λ n. n) (option_map (λ (t : TimeId). t.0) start)
    at None = refl
    at (Some t) = refl

    by : (o : Option Span) → start_key o ≡ key_of (λ n. n) (num_at first_num o)
    by None = refl
    by (Some y) = at y.start

end_same : (x : Slot) → end_key x.span ≡ key_of (λ n. NOTHING - n) (num_at last_num x.span)
end_same x = by x.span
  where
    at : (d : ℕ) (start : Option TimeId) → option_map_or (λ (t : TimeId). NOTHING - (t.0 + d)) start NOTHING
        ≡ key_of (λ n. NOTHING - n) (option_map (λ (t : TimeId). t.0 + d) start)
    at d None = refl
    at d (Some t) = refl

    by : (o : Option Span) → end_key o ≡ key_of (λ n. NOTHING - n) (num_at last_num o)
    by None = refl
    by (Some y) = at y.duration y.start

-- the least start and the greatest end
abbrev IsStart : ℕ → Type 0
IsStart n = n < NOTHING

abbrev IsEnd : ℕ → Type 0
IsEnd n = (1 ≤ n) × (n ≤ NOTHING)

fold_high : (n : ℕ) (ns : List ℕ) → n ≤ NOTHING → All_of IsEnd ns → (n ≤ fold max n ns) × (fold max n ns ≤ NOTHING)
fold_high n [] l a = (omega arith, l)
fold_high n (x ∷ ns) l a =
    let b = a.0.1 in
    let r = fold_high (max n x) ns (omega (arith, l, b)) a.1 in
    let r0 = r.0 in
    (omega (arith, r0), r.1)

ends_fold : (n : ℕ) (ns : List ℕ) → n ≤ NOTHING → All_of IsEnd ns
    → fold min (NOTHING - n) (map (λ (k : ℕ). NOTHING - k) ns) ≡ NOTHING - fold max n ns
ends_fold n [] l a = refl
ends_fold n (x ∷ ns) l a =
    let b = a.0.1 in
    let z : min (NOTHING - n) (NOTHING - x) ≡ NOTHING - max n x = omega (arith, l, b) in
    ap (λ k. fold min k (map (λ (k : ℕ). NOTHING - k) ns)) z ∙ ends_fold (max n x) ns (omega (arith, l, b)) a.1

or_true : (b : Bool) (n : ℕ) → cond {A = ℕ} (b || true) 0 n ≡ 0
or_true true n = refl
or_true false n = refl

between_is : (ends starts : List ℕ) (least greatest : ℕ) → All_of IsEnd ends → All_of IsStart starts
    → order_of ends starts least greatest ≡ between (fold min NOTHING (map (λ (k : ℕ). NOTHING - k) ends))
    (fold min NOTHING starts) least greatest
between_is [] starts least greatest a b =
    let v = fold min NOTHING starts in
    sym (ap (λ c. cond (c || (v == NOTHING)) 0 (outside (pos v -ℤ pos (NOTHING - NOTHING)) (pos least) (pos greatest)))
    (eq-eqb NOTHING NOTHING refl))
between_is (f ∷ ends) [] least greatest a b =
    let v = fold min NOTHING (map (λ (k : ℕ). NOTHING - k) (f ∷ ends)) in
    sym (ap (λ c. cond ((v == NOTHING) || c) 0 (outside (pos NOTHING -ℤ pos (NOTHING - v)) (pos least) (pos greatest)))
    (eq-eqb NOTHING NOTHING refl) ∙ or_true (v == NOTHING) _)
between_is (f ∷ ends) (s ∷ starts) least greatest a b =
    let v = fold min NOTHING (map (λ (k : ℕ). NOTHING - k) (f ∷ ends)) in
    let w = fold min NOTHING (s ∷ starts) in
    let f1 = a.0.0 in
    let f2 = a.0.1 in
    let s1 = b.0 in
    let high = fold_high f ends f2 a.1 in
    let h0 = high.0 in
    let h1 = high.1 in
    let z : min NOTHING (NOTHING - f) ≡ NOTHING - f = omega arith in
    let last : v ≡ NOTHING - fold max f ends = ap (λ k. fold min k (map (λ (k : ℕ). NOTHING - k) ends)) z
    ∙ ends_fold f ends f2 a.1 in
    let y : min NOTHING s ≡ s = omega (arith, s1) in
    let first : w ≡ fold min s starts = ap (λ k. fold min k starts) y in
    let low = least_small s starts in
    let back : NOTHING - v ≡ fold max f ends = omega (arith, last, h1) in
    let not_last : (v == NOTHING) ≡ false = ne_eqb v NOTHING (λ e. omega (arith, e, last, f1, h0, h1)) in
    let not_first : (w == NOTHING) ≡ false = ne_eqb w NOTHING (λ e. omega (arith, e, first, s1, low)) in
    sym ((λ i. cond (not_last i || not_first i) 0 (outside (pos (first i) -ℤ pos (back i)) (pos least) (pos greatest))))

-- the deviation at a pair
pub order_is : (s : List Slot) (first second : ℕ) (a b : Edges) (least greatest : ℕ) → AreShort s → IsEdges first s a
    → IsEdges second s b
    → order_events (meets_in s) first second least greatest
    ≡ between (fold min NOTHING a.ends) (fold min NOTHING b.starts) least greatest
order_is s first second a b least greatest short one two =
    let ends = filter_map (λ (x : Slot). num_at last_num x.span) (own_slots first s) in
    let starts = filter_map (λ (x : Slot). num_at first_num x.span) (own_slots second s) in
    let last : fold min NOTHING a.ends ≡ fold min NOTHING (map (λ (k : ℕ). NOTHING - k) ends) =
    ap (fold min NOTHING) one.ends ∙ key_fold (λ n. NOTHING - n) (λ (x : Slot). num_at last_num x.span)
    (λ (x : Slot). end_key x.span) end_same NOTHING (own_slots first s) (omega arith) in
    let start : fold min NOTHING b.starts ≡ fold min NOTHING starts =
    ap (fold min NOTHING) two.starts ∙ key_fold (λ n. n) (λ (x : Slot). num_at first_num x.span)
    (λ (x : Slot). start_key x.span) start_same NOTHING (own_slots second s) (omega arith)
    ∙ ap (fold min NOTHING) (map_same starts) in
    (λ i. order_of (own_nums last_num first s i) (own_nums first_num second s i) least greatest)
    ∙ between_is ends starts least greatest (each_num last_num first IsEnd
    (λ t d l m. (omega (arith, l), omega (arith, m))) s short)
    (each_num first_num second IsStart (λ t d l m. omega (arith, l, m)) s short)
    ∙ sym (λ i. between (last i) (start i) least greatest)

-- it is told by the slots of both
pub order_same : (s s2 : List Slot) (first second least greatest : ℕ) → own_slots first s2 ≡ own_slots first s
    → own_slots second s2 ≡ own_slots second s
    → order_events (meets_in s) first second least greatest ≡ order_events (meets_in s2) first second least greatest
order_same s s2 first second least greatest one two =
    (λ i. order_of (own_nums last_num first s i) (own_nums first_num second s i) least greatest)
    ∙ sym (λ i. order_of (filter_map (λ (x : Slot). num_at last_num x.span) (one i))
    (filter_map (λ (x : Slot). num_at first_num x.span) (two i)) least greatest)
    ∙ sym (λ i. order_of (own_nums last_num first s2 i) (own_nums first_num second s2 i) least greatest)
