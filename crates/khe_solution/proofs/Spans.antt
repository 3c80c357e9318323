-- Where the slots of an event stand: together, from its first one on.
use Rattle.std.proofs.Common.{ℕ, ◌≡◌, ◌+◌, ◌-◌, ◌^◌, ◌<◌, ◌≤◌, zero, suc, Bool, true, false, Option, Some, None, List}
use Rattle.std.proofs.Common.{[], ◌∷◌, length, slice_get, refl, sym, ap, ◌∙◌, arith, inl, inr, length-append}
use Rattle.std.specs.Prelude.{◌&&◌, ◌==◌, is_none, is_some}
use Rattle.std.specs.List.{sum_by}
use Rattle.std.proofs.Math.ListN.{get_or-append}
use Rattle.std.proofs.Math.Seq.{get_or-append_right}
use Rattle.std.proofs.lemmas.Bool.{and_parts, cases_lt, eq-eqb, eqb-true, ne_eqb}
use Rattle.std.proofs.lemmas.List.FromFn.{get_or-map-range_with_len}
use Rattle.std.proofs.lemmas.List.{length-map}
use Rattle.std.proofs.lemmas.List.Sums.{sum_by-cons, position_or_len_is, passes_at_first}
use Rattle.std.proofs.lemmas.Option.{same_Some, slice_get_within}
use Rattle.khe_base.specs.declared.numbers.EventId.{EventId}
use Rattle.khe_instance.specs.WellMade.{AreFirstMeets, AreWellMade}
use Rattle.khe_instance.specs.declared.parts.EventInfo.{EventInfo}
use Rattle.khe_instance.specs.declared.parts.Parts.{Parts}
use Rattle.khe_instance.specs.declared.states.Meet.{Meet}
use Rattle.khe_told.specs.Slots.{empty_slot, slots_of_event, slots_from, no_meets, emptied, no_slot, slot_at, length_of}
use Rattle.khe_told.specs.Slots.{is_live}
use Rattle.khe_told.specs.Fits.{AreTold}
use Rattle.khe_told.specs.declared.slots.Slot.{Slot}
use Rattle.khe_told.specs.declared.slots.Span.{Span}
use Rattle.khe_solution.specs.Reading.{Shows, is_free_of, free_slot}
use Rattle.khe_solution.specs.FreeBits.{AreLive, IsFirstFree}
use Rattle.khe_solution.proofs.Basics.{true-false, live_there}
use Rattle.khe_solution.proofs.Owners.{owner, free_there, emptied_at, length_slots}
use Rattle.khe_told.proofs.OpeningLaws.{slots_amount}

-- a slot of the first event, and one of those after it
front_slot : (n m : ℕ) (x : EventInfo) (xs : List EventInfo) → m < x.duration
    → slot_at (slots_from n (x ∷ xs)) m ≡ empty_slot (x.first_meet + m) n x
front_slot n m x xs l =
    let size = length_slots n x in
    get_or-append (slots_of_event n x) (slots_from (n + 1) xs) no_slot m (omega (arith, size, l))
    ∙ get_or-map-range_with_len (λ k. empty_slot k n x) x.first_meet x.duration m (x.first_meet + m) no_slot l refl

back_slot : (n m : ℕ) (x : EventInfo) (xs : List EventInfo) → x.duration ≤ m
    → slot_at (slots_from n (x ∷ xs)) m ≡ slot_at (slots_from (n + 1) xs) (m - x.duration)
back_slot n m x xs l =
    let size = length_slots n x in
    get_or-append_right (slots_of_event n x) (slots_from (n + 1) xs) m no_slot (omega (arith, size, l))
    ∙ ap (λ k. slot_at (slots_from (n + 1) xs) (m - k)) size

both_slots : (n : ℕ) (x : EventInfo) (xs : List EventInfo)
    → length (slots_from n (x ∷ xs)) ≡ x.duration + length (slots_from (n + 1) xs)
both_slots n x xs =
    let size = length_slots n x in
    let all = length-append (slots_of_event n x) (slots_from (n + 1) xs) in
    omega (arith, size, all)

-- the events of slots have the numbers from the first one on
event_least : (n m : ℕ) (events : List EventInfo) → m < length (slots_from n events)
    → n ≤ (slot_at (slots_from n events) m).event.0
event_least n m [] l = absurd (omega (arith, l))
event_least n m (x ∷ xs) l =
    let all = both_slots n x xs in
    elim (cases_lt m x.duration) [
      | inl i ↦ let e = ap (λ (z : Slot). z.event.0) (front_slot n m x xs i) in omega (arith, e)
      | inr o ↦
          let e = ap (λ (z : Slot). z.event.0) (back_slot n m x xs o) in
          let h = event_least (n + 1) (m - x.duration) xs (omega (arith, all, o, l)) in
          omega (arith, e, h)
    ]

first_least : (next k : ℕ) (events : List EventInfo) (event : EventInfo) → AreFirstMeets next events
    → slice_get events k ≡ Some event → next ≤ event.first_meet
first_least next k [] event f g = let l = slice_get_within [] k event g in absurd (omega (arith, l))
first_least next zero (x ∷ xs) event f g =
    let e = ap (λ (z : EventInfo). z.first_meet) (same_Some x event g) in
    let h = f.0 in
    omega (arith, e, h)
first_least next (suc k) (x ∷ xs) event f g = let h = first_least (next + x.duration) k xs event f.1 g in
    omega (arith, h)

-- a slot of an event is in the event's span, and each slot in the span is one of the event
in_span : (n next m k : ℕ) (events : List EventInfo) (event : EventInfo) → AreFirstMeets next events
    → slice_get events k ≡ Some event
    → m < length (slots_from n events) → (slot_at (slots_from n events) m).event.0 ≡ n + k
    → (event.first_meet ≤ next + m) × (next + m < event.first_meet + event.duration)
in_span n next m k [] event f g l w = absurd (omega (arith, l))
in_span n next m zero (x ∷ xs) event f g l w =
    let all = both_slots n x xs in
    let e = ap (λ (z : EventInfo). z.first_meet) (same_Some x event g) in
    let d = ap (λ (z : EventInfo). z.duration) (same_Some x event g) in
    let h = f.0 in
    elim (cases_lt m x.duration) [
      | inl i ↦ (omega (arith, e, h), omega (arith, e, d, h, i))
      | inr o ↦
          let q = ap (λ (z : Slot). z.event.0) (back_slot n m x xs o) in
          let r = event_least (n + 1) (m - x.duration) xs (omega (arith, all, o, l)) in
          absurd (omega (arith, q, r, w))
    ]
in_span n next m (suc k) (x ∷ xs) event f g l w =
    let all = both_slots n x xs in
    elim (cases_lt m x.duration) [
      | inl i ↦ let q = ap (λ (z : Slot). z.event.0) (front_slot n m x xs i) in absurd (omega (arith, q, w))
      | inr o ↦
          let q = ap (λ (z : Slot). z.event.0) (back_slot n m x xs o) in
          let r = in_span (n + 1) (next + x.duration) (m - x.duration) k xs event f.1 g (omega (arith, all, o, l))
          (omega (arith, q, w)) in
          let a = r.0 in
          let b = r.1 in
          (omega (arith, a, o), omega (arith, b, o))
    ]

at_span : (n next m k : ℕ) (events : List EventInfo) (event : EventInfo) → AreFirstMeets next events
    → slice_get events k ≡ Some event
    → event.first_meet ≤ next + m → next + m < event.first_meet + event.duration
    → ((slot_at (slots_from n events) m).event.0 ≡ n + k) × (m < length (slots_from n events))
at_span n next m k [] event f g a b = let l = slice_get_within [] k event g in absurd (omega (arith, l))
at_span n next m zero (x ∷ xs) event f g a b =
    let all = both_slots n x xs in
    let e = ap (λ (z : EventInfo). z.first_meet) (same_Some x event g) in
    let d = ap (λ (z : EventInfo). z.duration) (same_Some x event g) in
    let h = f.0 in
    let i : m < x.duration = omega (arith, e, d, h, a, b) in
    let q = ap (λ (z : Slot). z.event.0) (front_slot n m x xs i) in
    (omega (arith, q), omega (arith, all, i))
at_span n next m (suc k) (x ∷ xs) event f g a b =
    let all = both_slots n x xs in
    let h = first_least (next + x.duration) k xs event f.1 g in
    let o : x.duration ≤ m = omega (arith, h, a) in
    let q = ap (λ (z : Slot). z.event.0) (back_slot n m x xs o) in
    let r = at_span (n + 1) (next + x.duration) (m - x.duration) k xs event f.1 g (omega (arith, a, o))
    (omega (arith, b, o)) in
    let r0 = r.0 in
    let r1 = r.1 in
    (omega (arith, q, r0), omega (arith, all, r1, o))

-- the same of the slots of a told state
told_at : (p : Parts) (s : List Slot) (m : ℕ) → AreTold p s → (slot_at (no_meets p) m).event ≡ (slot_at s m).event
told_at p s m t = sym (ap (λ q. (slot_at q m).event) t.whose) ∙ ap (λ (z : Slot). z.event) (emptied_at s m)

told_length : (p : Parts) (s : List Slot) → AreTold p s → length (no_meets p) ≡ length s
told_length p s t = sym (ap length t.whose) ∙ length-map s emptied

pub in_event : (p : Parts) (s : List Slot) (m e : ℕ) (event : EventInfo) → AreTold p s → AreFirstMeets 0 p.events
    → slice_get p.events e ≡ Some event → m < length s → (slot_at s m).event.0 ≡ e
    → (event.first_meet ≤ m) × (m < event.first_meet + event.duration)
in_event p s m e event t f g l w =
    let n = told_length p s t in
    let q = ap (λ (z : EventId). z.0) (told_at p s m t) in
    let r = in_span 0 0 m e p.events event f g (omega (arith, n, l)) (omega (arith, q, w)) in
    let a = r.0 in
    let b = r.1 in
    (omega (arith, a), omega (arith, b))

pub at_event : (p : Parts) (s : List Slot) (m e : ℕ) (event : EventInfo) → AreTold p s → AreFirstMeets 0 p.events
    → slice_get p.events e ≡ Some event
    → event.first_meet ≤ m → m < event.first_meet + event.duration → ((slot_at s m).event.0 ≡ e) × (m < length s)
at_event p s m e event t f g a b =
    let n = told_length p s t in
    let q = ap (λ (z : EventId). z.0) (told_at p s m t) in
    let r = at_span 0 0 m e p.events event f g (omega (arith, a)) (omega (arith, b)) in
    let r0 = r.0 in
    let r1 = r.1 in
    (omega (arith, q, r0), omega (arith, n, r1))

-- a slot is free of the event that it is one of where it is not live
free_of : (e : ℕ) (x : Slot) → x.event.0 ≡ e → is_live x ≡ false → is_free_of e x ≡ true
free_of e x w h = (λ i. eq-eqb x.event.0 e w i && none x.span h i)
  where
    none : (o : Option Span) → is_some o ≡ false → is_none o ≡ true
    none None k = refl
    none (Some y) k = absurd (true-false k)

not_free : (e : ℕ) (x : Slot) → is_live x ≡ true → is_free_of e x ≡ false
not_free e x h = ap (λ b. (x.event.0 == e) && b) (there x.span h) ∙ off (x.event.0 == e)
  where
    there : (o : Option Span) → is_some o ≡ true → is_none o ≡ false
    there None k = absurd (true-false (sym k))
    there (Some y) k = refl

    off : (b : Bool) → (b && false) ≡ false
    off true = refl
    off false = refl

other_event : (e : ℕ) (x : Slot) → (x.event.0 ≡ e → ⊥) → is_free_of e x ≡ false
other_event e x d = ap (λ b. b && is_none x.span) (ne_eqb x.event.0 e d)

-- the first free slot from the first of an event's slots on is the lowest free slot of the event, if
-- that has one
first_is : (p : Parts) (s : List Slot) (e n : ℕ) (event : EventInfo) → AreTold p s → AreFirstMeets 0 p.events
    → slice_get p.events e ≡ Some event
    → free_slot s e < length s → IsFirstFree s event.first_meet n
    → (n ≡ free_slot s e) × (n < event.first_meet + event.duration)
first_is p s e n event t f g there i = (same, last)
  where
    is : ((slot_at s (free_slot s e)).event.0 ≡ e) × (is_live (slot_at s (free_slot s e)) ≡ false)
    is =
        let x = slot_at s (free_slot s e) in
        let b = and_parts (x.event.0 == e) (is_none x.span) (passes_at_first (is_free_of e) s no_slot there) in
        (eqb-true x.event.0 e b.0, off x.span b.1)
      where
        off : (o : Option Span) → is_none o ≡ true → is_some o ≡ false
        off None k = refl
        off (Some y) k = absurd (true-false (sym k))

    within : (event.first_meet ≤ free_slot s e) × (free_slot s e < event.first_meet + event.duration)
    within = in_event p s (free_slot s e) e event t f g there is.0

    least : n ≤ free_slot s e
    least = elim (cases_lt (free_slot s e) n) [
      | inl l ↦ absurd (true-false (sym (i.3 (free_slot s e) within.0 l) ∙ is.1))
      | inr h ↦ h
    ]

    last : n < event.first_meet + event.duration
    last = let a = least in let b = within.1 in omega (arith, a, b)

    own : (slot_at s n).event.0 ≡ e
    own = (at_event p s n e event t f g i.0 last).0

    before : (k : ℕ) → k < n → is_free_of e (slot_at s k) ≡ false
    before k h = elim (cases_lt k event.first_meet) [
      | inl b ↦ other_event e (slot_at s k) (λ mine.
          let l = i.1 in
          let r = (in_event p s k e event t f g (omega (arith, l, h)) mine).0 in
          omega (arith, r, b))
      | inr a ↦ not_free e (slot_at s k) (i.3 k a h)
    ]

    same : n ≡ free_slot s e
    same = let l = i.1 in sym (position_or_len_is (is_free_of e) s n no_slot (omega (arith, l)) before
        (λ k. free_of e (slot_at s n) own i.2))

-- the slots of an event end where all durations do, or before
span_end : (next i : ℕ) (events : List EventInfo) (event : EventInfo) → AreFirstMeets next events
    → slice_get events i ≡ Some event → event.first_meet + event.duration ≤ next + sum_by
    (λ (e : EventInfo). e.duration) events
span_end next i [] event f g = let l = slice_get_within [] i event g in absurd (omega (arith, l))
span_end next zero (x ∷ xs) event f g =
    let s = sum_by-cons (λ (e : EventInfo). e.duration) x xs in
    let e = ap (λ (z : EventInfo). z.first_meet) (same_Some x event g) in
    let d = ap (λ (z : EventInfo). z.duration) (same_Some x event g) in
    let n = f.0 in
    omega (arith, s, e, d, n)
span_end next (suc i) (x ∷ xs) event f g =
    let s = sum_by-cons (λ (e : EventInfo). e.duration) x xs in
    let r = span_end (next + x.duration) i xs event f.1 g in
    omega (arith, s, r)

-- what the code that looks for it asks
pub event_there : (p : Parts) (s : List Slot) (m : ℕ) (own : Meet) → AreTold p s → Shows (slot_at s m) own
    → own.event.0 < length p.events
event_there p s m own t h =
    let o = owner p s m t (live_there s m h.live) in
    slice_get_within p.events own.event.0 o.event (ap (λ (e : EventId). slice_get p.events e.0) (sym h.event) ∙ o.there)

pub span_small : (p : Parts) (e : ℕ) (event : EventInfo) → AreWellMade p → slice_get p.events e ≡ Some event
    → event.first_meet + event.duration < 2 ^ 32
span_small p e event w g =
    let a = span_end 0 e p.events event w.first_meets g in
    let b = w.limits.duration in
    omega (arith, a, b)

pub never_full : (p : Parts) (s : List Slot) (m : ℕ) (own : Meet) (event : EventInfo) → AreTold p s → AreWellMade p
    → 2 ≤ length_of (slot_at s m) → Shows (slot_at s m) own → slice_get p.events own.event.0 ≡ Some event
    → AreLive s event.first_meet (length s) → ⊥
never_full p s m own event t w d h g a =
    let x = slot_at s m in
    let e = x.event.0 in
    let n = free_slot s e in
    let l = free_there p s m t (live_there s m h.live) d in
    let is = and_parts ((slot_at s n).event.0 == e) (is_none (slot_at s n).span)
    (passes_at_first (is_free_of e) s no_slot l) in
    let g2 : slice_get p.events e ≡ Some event = ap (λ (q : EventId). slice_get p.events q.0) h.event ∙ g in
    let i = in_event p s n e event t w.first_meets g2 l (eqb-true (slot_at s n).event.0 e is.0) in
    absurd (busy (slot_at s n).span (a n i.0 l) is.1)
  where
    busy : (o : Option Span) → is_some o ≡ true → is_none o ≡ true → ⊥
    busy None u v = true-false (sym u)
    busy (Some y) u v = true-false (sym v)

found : (p : Parts) (s : List Slot) (m n : ℕ) (own : Meet) (event : EventInfo) → AreTold p s → AreWellMade p
    → 2 ≤ length_of (slot_at s m) → Shows (slot_at s m) own → slice_get p.events own.event.0 ≡ Some event
    → IsFirstFree s event.first_meet n → (n ≡ free_slot s (slot_at s m).event.0)
    × (n < event.first_meet + event.duration)
found p s m n own event t w d h g i =
    first_is p s (slot_at s m).event.0 n event t w.first_meets
    (ap (λ (q : EventId). slice_get p.events q.0) h.event ∙ g) (free_there p s m t (live_there s m h.live) d) i

pub first_found : (p : Parts) (s : List Slot) (m n : ℕ) (own : Meet) (event : EventInfo) → AreTold p s → AreWellMade p
    → 2 ≤ length_of (slot_at s m) → Shows (slot_at s m) own → slice_get p.events own.event.0 ≡ Some event
    → IsFirstFree s event.first_meet n → n ≡ free_slot s (slot_at s m).event.0
first_found p s m n own event t w d h g i = (found p s m n own event t w d h g i).0

pub first_small : (p : Parts) (s : List Slot) (m n : ℕ) (own : Meet) (event : EventInfo) → AreTold p s → AreWellMade p
    → 2 ≤ length_of (slot_at s m) → Shows (slot_at s m) own → slice_get p.events own.event.0 ≡ Some event
    → IsFirstFree s event.first_meet n → n < 2 ^ 32
first_small p s m n own event t w d h g i =
    let a = (found p s m n own event t w d h g i).1 in
    let b = span_small p own.event.0 event w g in
    omega (arith, a, b)

pub slots_few : (p : Parts) (s : List Slot) → AreTold p s → AreWellMade p → length s < 2 ^ 32
slots_few p s t w =
    let a = told_length p s t in
    let b = slots_amount 0 p.events in
    let c = w.limits.duration in
    omega (arith, a, b, c)
