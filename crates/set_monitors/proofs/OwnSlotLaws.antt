-- The slots of an event, and another in place of one of them.
use Rattle.std.proofs.Common.{ℕ, ◌≡◌, ◌≤◌, ◌<◌, ◌+◌, ◌-◌, ◌==◌, ◌∙◌, zero, suc, Bool, true, false, cond, Option, Some}
use Rattle.std.proofs.Common.{None, List, [], ◌∷◌, ◌++◌, filter, map, set, take, get_or, length, slice_get, refl, sym}
use Rattle.std.proofs.Common.{ap, subst, arith, count_by}
use Rattle.std.specs.List.{range_with_len}
use Rattle.std.proofs.lemmas.Bool.{eq-eqb, ne_eqb}
use Rattle.std.specs.Prelude.{IfSome, replicate}
use Rattle.std.proofs.lemmas.List.{append-nil, length-map}
use Rattle.std.proofs.lemmas.List.Elements.{All-append, All-map, All-nil, All-weaker, filter-append}
use Rattle.std.proofs.lemmas.List.Sums.{sum_by-cons, count_by_more_no, count_by_more_yes}
use Rattle.std.proofs.lemmas.Option.{same_Some, slice_get_within}
use Rattle.khe_base.specs.declared.limits.TheConstants.{TIMES}
use Rattle.khe_base.specs.declared.numbers.TimeId.{TimeId}
use Rattle.khe_instance.proofs.SlotsLemmas.{length-slots_from, slot-event}
use Rattle.khe_instance.specs.Slots.{HasSlot}
use Rattle.khe_instance.specs.WellMade.{AreFirstMeets}
use Rattle.khe_instance.specs.declared.parts.EventInfo.{EventInfo}
use Rattle.khe_instance.specs.declared.parts.Parts.{Parts}
use Rattle.khe_told.specs.Slots.{emptied, empty_slot, no_meets, no_slot, slot_at, slots_from, slots_of_event}
use Rattle.khe_told.specs.declared.slots.Slot.{Slot}
use Rattle.khe_told.specs.declared.slots.Span.{Span}
use Rattle.khe_told.specs.Fits.{AreTold, IsSlot}
use Rattle.khe_told.proofs.FillingLaws.{slot_of}
use Rattle.set_monitors.specs.MeetEdges.{AreShort, IsShort, own_slots}
use Rattle.khe_told.proofs.OpeningLaws.{slots_amount}

-- one element of a list that is filtered
module _ {X : Type 0} (p : X → Bool) (d : X) where
  mapped : (f : X → ℕ) (b : Bool) (x : X) (xs : List X)
      → map f (cond b (x ∷ xs) xs) ≡ cond b (f x ∷ map f xs) (map f xs)
  mapped f true x xs = refl
  mapped f false x xs = refl

  pub filter_out : (xs : List X) (m : ℕ) (y : X) → m < length xs → p (get_or xs m d) ≡ false → p y ≡ false
      → filter p (set xs m y) ≡ filter p xs
  filter_out [] m y l a b = refl
  filter_out (x ∷ xs) zero y l a b = ap (λ c. cond c (y ∷ filter p xs) (filter p xs)) b
      ∙ sym (ap (λ c. cond c (x ∷ filter p xs) (filter p xs)) a)
  filter_out (x ∷ xs) (suc m) y l a b = ap (λ t. cond (p x) (x ∷ t) t) (filter_out xs m y (omega (arith, l)) a b)

  -- what is read of those that pass stays, where it is the same of the new one
  pub read_same : (f : X → ℕ) (xs : List X) (m : ℕ) (y : X) → p y ≡ p (get_or xs m d) → f y ≡ f (get_or xs m d)
      → map f (filter p (set xs m y)) ≡ map f (filter p xs)
  read_same f [] m y a b = refl
  read_same f (x ∷ xs) zero y a b =
      mapped f (p y) y (filter p xs)
      ∙ (λ j. cond (a j) (b j ∷ map f (filter p xs)) (map f (filter p xs)))
      ∙ sym (mapped f (p x) x (filter p xs))
  read_same f (x ∷ xs) (suc m) y a b =
      mapped f (p x) x (filter p (set xs m y))
      ∙ ap (λ t. cond (p x) (f x ∷ t) t) (read_same f xs m y a b)
      ∙ sym (mapped f (p x) x (filter p xs))

  counted : (x : X) (xs : List X) → count_by p (x ∷ xs) ≡ cond (p x) 1 0 + count_by p xs
  counted x xs = sum_by-cons (λ y. cond (p y) 1 0) x xs

  pub filter_in : (xs : List X) (m : ℕ) (y : X) → m < length xs → p (get_or xs m d) ≡ true → p y ≡ true
      → filter p (set xs m y) ≡ set (filter p xs) (count_by p (take m xs)) y
  filter_in [] m y l a b = absurd (omega (arith, l))
  filter_in (x ∷ xs) zero y l a b = ap (λ c. cond c (y ∷ filter p xs) (filter p xs)) b
      ∙ sym (ap (λ c. set (cond c (x ∷ filter p xs) (filter p xs)) 0 y) a)
  filter_in (x ∷ xs) (suc m) y l a b =
      ap (λ t. cond (p x) (x ∷ t) t) (filter_in xs m y (omega (arith, l)) a b)
      ∙ by (p x) (count_by p (take m xs))
      ∙ sym (ap (λ n. set (filter p (x ∷ xs)) n y) (counted x (take m xs)))
    where
      by : (c : Bool) (n : ℕ) → cond c (x ∷ set (filter p xs) n y) (set (filter p xs) n y)
          ≡ set (cond c (x ∷ filter p xs) (filter p xs)) (cond c 1 0 + n) y
      by true n = let e : suc n ≡ 1 + n = omega arith in ap (λ k. set (x ∷ filter p xs) k y) e
      by false n = let e : n ≡ 0 + n = omega arith in ap (λ k. set (filter p xs) k y) e

  pub place_within : (xs : List X) (m : ℕ) → m < length xs → p (get_or xs m d) ≡ true
      → count_by p (take m xs) < length (filter p xs)
  place_within [] m l a = absurd (omega (arith, l))
  place_within (x ∷ xs) zero l a = let e = ap (λ c. length (cond c (x ∷ filter p xs) (filter p xs))) a in
      omega (arith, e)
  place_within (x ∷ xs) (suc m) l a =
      let c = counted x (take m xs) in
      let r = place_within xs m (omega (arith, l)) a in
      let k = by (p x) in
      omega (arith, c, r, k)
    where
      by : (c : Bool) → length (cond c (x ∷ filter p xs) (filter p xs)) ≡ cond c 1 0 + length (filter p xs)
      by true = omega arith
      by false = omega arith

pub map_set : {X Y : Type 0} (f : X → Y) (xs : List X) (m : ℕ) (y : X) → set (map f xs) m (f y) ≡ map f (set xs m y)
map_set f [] m y = refl
map_set f (x ∷ xs) zero y = refl
map_set f (x ∷ xs) (suc m) y = ap (λ t. f x ∷ t) (map_set f xs m y)

-- where an event's slots stand
module _ (p : Parts) (s : List Slot) (first : AreFirstMeets 0 p.events) (whose : map emptied s ≡ no_meets p) where
  pub has_slot : (m : ℕ) → m < length s → HasSlot p.events (slot_at s m).event.0 m
  has_slot m l =
      let a = length-map s emptied in
      let b = ap length whose in
      let c = slots_amount 0 p.events in
      let d = length-slots_from 0 p.events in
      let h = slot-event m p.events first (omega (arith, a, b, c, d, l)) in
      subst (λ e. HasSlot p.events e m) (sym (slot_of p s _ m first whose h).event) h

  module _ (e : ℕ) (event : EventInfo) (at : slice_get p.events e ≡ Some event) where
    abbrev of : Slot → Bool
    of x = x.event.0 == e

    pub in_range : (m : ℕ) → m < length s → (slot_at s m).event.0 ≡ e
        → (event.first_meet ≤ m) × (m < event.first_meet + event.duration)
    in_range m l w =
        let h = has_slot m l in
        let same = same_Some h.0 event (sym h.1 ∙ ap (slice_get p.events) w ∙ at) in
        let a = ap (λ (x : EventInfo). x.first_meet) same in
        let b = ap (λ (x : EventInfo). x.duration) same in
        let from = h.2 in
        let to = h.3 in
        (omega (arith, a, from), omega (arith, a, b, to))

    mine : (m : ℕ) → event.first_meet ≤ m → m < event.first_meet + event.duration → (slot_at s m).event.0 ≡ e
    mine m a b = (slot_of p s e m first whose (event, at, a, b)).event

    before : (n : ℕ) → n ≤ length s → n ≤ event.first_meet → count_by of (take n s) ≡ 0
    before zero l low = refl
    before (suc n) l low =
        let z : suc n ≡ n + 1 = omega arith in
        ap (λ k. count_by of (take k s)) z
        ∙ count_by_more_no of s n no_slot (omega (arith, l))
        (ne_eqb (slot_at s n).event.0 e (λ w. absurd (let r = (in_range n (omega (arith, l)) w).0 in
        omega (arith, r, low))))
        ∙ before n (omega (arith, l)) (omega (arith, low))

    among : (n : ℕ) → event.first_meet + n ≤ length s → n ≤ event.duration
        → count_by of (take (event.first_meet + n) s) ≡ n
    among zero l low = let z : event.first_meet + 0 ≡ event.first_meet = omega arith in
        ap (λ k. count_by of (take k s)) z ∙ before event.first_meet (omega (arith, l)) (omega arith)
    among (suc n) l low =
        let z : event.first_meet + suc n ≡ event.first_meet + n + 1 = omega arith in
        let r = among n (omega (arith, l)) (omega (arith, low)) in
        let more = count_by_more_yes of s (event.first_meet + n) no_slot (omega (arith, l))
        (eq-eqb (slot_at s (event.first_meet + n)).event.0 e
        (mine (event.first_meet + n) (omega arith) (omega (arith, low)))) in
        ap (λ k. count_by of (take k s)) z ∙ more ∙ (let q : count_by of (take (event.first_meet + n) s) + 1 ≡ suc n =
        omega (arith, r) in q)

    -- a slot's place among those of its event
    pub place_of : (m : ℕ) → m < length s → (slot_at s m).event.0 ≡ e
        → count_by (λ (x : Slot). x.event.0 == e) (take m s) ≡ m - event.first_meet
    place_of m l w =
        let r = in_range m l w in
        let a = r.0 in
        let b = r.1 in
        let z : m ≡ event.first_meet + (m - event.first_meet) = omega (arith, a) in
        ap (λ k. count_by of (take k s)) z ∙ among (m - event.first_meet) (omega (arith, a, l)) (omega (arith, a, b))

    -- the slot that takes its place
    pub own_set : (m : ℕ) (y : Slot) → m < length s → (slot_at s m).event.0 ≡ e → y.event.0 ≡ e
        → own_slots e (set s m y) ≡ set (own_slots e s) (m - event.first_meet) y
    own_set m y l w v = filter_in of no_slot s m y l (eq-eqb _ e w) (eq-eqb y.event.0 e v)
        ∙ ap (λ n. set (own_slots e s) n y) (place_of m l w)

    pub own_within : (m : ℕ) → m < length s → (slot_at s m).event.0 ≡ e → m - event.first_meet < length (own_slots e s)
    own_within m l w = let a = place_within of no_slot s m l (eq-eqb _ e w) in let b = place_of m l w in
        omega (arith, a, b)

-- a slot that takes the place of another event's leaves them
pub own_other : (s : List Slot) (e m : ℕ) (y : Slot) → m < length s → ((slot_at s m).event.0 ≡ e → ⊥)
    → y.event.0 ≡ (slot_at s m).event.0 → own_slots e (set s m y) ≡ own_slots e s
own_other s e m y l n v = filter_out (λ (x : Slot). x.event.0 == e) no_slot s m y l (ne_eqb _ e n)
    (ne_eqb y.event.0 e (λ h. n (sym v ∙ h)))

-- without meets
module _ (e : ℕ) where
  block_all : (x : EventInfo) (ms : List ℕ) → own_slots e (map (λ m. empty_slot m e x) ms)
      ≡ map (λ m. empty_slot m e x) ms
  block_all x [] = refl
  block_all x (m ∷ ms) =
      let rest = own_slots e (map (λ k. empty_slot k e x) ms) in
      ap (λ c. cond c (empty_slot m e x ∷ rest) rest) (eq-eqb e e refl)
      ∙ ap (λ t. empty_slot m e x ∷ t) (block_all x ms)

  block_none : (f : ℕ) (x : EventInfo) (ms : List ℕ) → (f ≡ e → ⊥) → own_slots e (map (λ m. empty_slot m f x) ms) ≡ []
  block_none f x [] n = refl
  block_none f x (m ∷ ms) n =
      let rest = own_slots e (map (λ k. empty_slot k f x) ms) in
      ap (λ c. cond c (empty_slot m f x ∷ rest) rest) (ne_eqb f e n) ∙ block_none f x ms n

  later_none : (f : ℕ) (events : List EventInfo) → e < f → own_slots e (slots_from f events) ≡ []
  later_none f [] l = refl
  later_none f (x ∷ events) l =
      filter-append (λ (y : Slot). y.event.0 == e) (slots_of_event f x) (slots_from (f + 1) events)
      ∙ (λ i. block_none f x (range_with_len x.first_meet x.duration) (λ h. omega (arith, h, l)) i
      ++ later_none (f + 1) events (omega (arith, l)) i)

  own_from : (f k : ℕ) (events : List EventInfo) (x : EventInfo) → e ≡ f + k → slice_get events k ≡ Some x
      → own_slots e (slots_from f events) ≡ slots_of_event e x
  own_from f k [] x n at = absurd (let l = slice_get_within [] k x at in omega (arith, l))
  own_from f zero (y ∷ events) x n at =
      let same = same_Some y x at in
      let z : f ≡ e = omega (arith, n) in
      ap (λ g. own_slots e (slots_from g (y ∷ events))) z
      ∙ filter-append (λ (y : Slot). y.event.0 == e) (slots_of_event e y) (slots_from (e + 1) events)
      ∙ (λ i. block_all y (range_with_len y.first_meet y.duration) i ++ later_none (e + 1) events (omega arith) i)
      ∙ append-nil (slots_of_event e y) ∙ ap (slots_of_event e) same
  own_from f (suc k) (y ∷ events) x n at =
      filter-append (λ (y : Slot). y.event.0 == e) (slots_of_event f y) (slots_from (f + 1) events)
      ∙ (λ i. block_none f y (range_with_len y.first_meet y.duration) (λ h. omega (arith, h, n)) i
      ++ own_from (f + 1) k events x (omega (arith, n)) at i)

  pub own_free : (p : Parts) (x : EventInfo) → slice_get p.events e ≡ Some x
      → own_slots e (no_meets p) ≡ slots_of_event e x
  own_free p x at = own_from 0 e p.events x (omega arith) at

pub free_keys : (f : Option Span → ℕ) (e : ℕ) (x : EventInfo) (m n : ℕ)
    → map (λ (y : Slot). f y.span) (map (λ k. empty_slot k e x) (range_with_len m n)) ≡ replicate n (f None)
free_keys f e x m zero = refl
free_keys f e x m (suc n) = ap (λ t. f None ∷ t) (free_keys f e x (m + 1) n)

pub free_short : (p : Parts) → AreShort (no_meets p)
free_short p = all 0 p.events
  where
    all : (e : ℕ) (events : List EventInfo) → AreShort (slots_from e events)
    all e [] = All-nil (λ (x : Slot). IsShort x.span)
    all e (event ∷ events) =
        All-append (λ (x : Slot). IsShort x.span) (slots_of_event e event) (slots_from (e + 1) events)
        (All-map (λ (x : Slot). IsShort x.span) (λ m. empty_slot m e event)
        (range_with_len event.first_meet event.duration) (λ i d l. tt))
        (all (e + 1) events)

-- told meets are short
pub told_short : (p : Parts) (s : List Slot) → length p.times ≤ TIMES → AreTold p s → AreShort s
told_short p s most told = All-weaker (IsSlot p) (λ (x : Slot). IsShort x.span) (λ x h. by x.span h.duration h.ends) s
    told.slots
  where
    by : (span : Option Span) → IfSome span (λ y. 1 ≤ y.duration)
        → IfSome span (λ y. IfSome y.start (λ t. t.0 + y.duration ≤ length p.times)) → IsShort span
    by None a b = tt
    by (Some y) a b = (a, at y.start b)
      where
        at : (start : Option TimeId) → IfSome start (λ t. t.0 + y.duration ≤ length p.times)
            → IfSome start (λ t. t.0 + y.duration ≤ TIMES)
        at None h = tt
        at (Some t) h = omega (arith, h, most)
