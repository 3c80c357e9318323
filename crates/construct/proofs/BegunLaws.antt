-- The slots of the timetable that a construction begins with are valid.
use Rattle.std.proofs.Common.{ℕ, zero, suc, ◌≡◌, ◌+◌, ◌*◌, ◌/◌, ◌%◌, ◌<◌, ◌≤◌, Bool, true, false, cond, Option, Some, None}
use Rattle.std.proofs.Common.{IfSome, List, [], ◌∷◌, ◌++◌, length, map, replicate, slice_get, refl, sym, ap, subst, ◌∙◌}
use Rattle.std.proofs.Common.{arith, inl, inr, mul-le-mul_right}
use Rattle.std.specs.Prelude.{All, nat_lt, is_some}
use Rattle.std.specs.List.{range_with_len, sum_by}
use Rattle.std.specs.List.Sorted.{IsStrictlyIncreasing}
use Rattle.std.specs.Option.{option_map, option_map_or}
use Rattle.std.proofs.lemmas.Bool.{cases_eq, eq-eqb, ltb-false, ltb-true, lt-ltb, le-ltb, ne_eqb}
use Rattle.std.proofs.lemmas.List.{length-map, length-replicate, map-append}
use Rattle.std.proofs.lemmas.List.Elements.{All-nil, All-cons, All-append}
use Rattle.std.proofs.lemmas.List.Sums.{sum_by-append, sum_by-cons}
use Rattle.std.proofs.lemmas.Option.{get_or_from_slice_get, none-some, same_Some, slice_get-map, slice_get_within}
use Rattle.construct.proofs.CutLaws.{IsAllowed, IsAmount, least_few, part_above, part_below}
use Rattle.construct.proofs.KeepLaws.{share, shares_whole}
use Rattle.construct.specs.Begun.{begun_from, begun_of, begun_slot, begun_slots, cut_slot}
use Rattle.construct.specs.Cuts.{amount_of, bounds_of, least_amount, part, widest}
use Rattle.khe_base.proofs.ListLemmas.{all-there}
use Rattle.khe_base.specs.declared.numbers.ResourceId.{ResourceId}
use Rattle.khe_base.specs.declared.numbers.TimeId.{TimeId}
use Rattle.khe_instance.specs.Lookups.{place_at}
use Rattle.khe_instance.specs.WellMade.{AreWellMade, HasType, IsEvent, IsPlace}
use Rattle.khe_instance.specs.declared.parts.EventInfo.{EventInfo}
use Rattle.khe_instance.specs.declared.parts.Parts.{Parts}
use Rattle.khe_instance.specs.declared.parts.Place.{Place}
use Rattle.khe_told.proofs.ValidLaws.{IsPlaceOf, if_given, place_there}
use Rattle.khe_told.specs.Fits.{AreTold, IsSlot}
use Rattle.khe_told.specs.Slots.{IsBareIfFree, emptied, empty_slot, given_at, held, held_by, is_live, length_of, no_meets}
use Rattle.khe_told.specs.Slots.{slots_from, slots_of_event, start_of}
use Rattle.khe_told.specs.Valid.{AreValid, IsFixedAs, IsKeptBy}
use Rattle.khe_told.specs.declared.slots.Slot.{Slot}
use Rattle.khe_told.specs.declared.slots.Span.{Span}

-- what is true of a slot with a meet and of one without is true of each slot
each_way : (P : Slot → Type 0) (e : ℕ) (event : EventInfo) (n k : ℕ)
    → (k < n → P (cut_slot (event.first_meet + k) e event (part event.duration n k)))
    → P (empty_slot (event.first_meet + k) e event) → P (begun_slot e event n k)
unfolding begun_slot
each_way P e event n k live free = by (nat_lt k n) refl
  where
    by : (c : Bool) → nat_lt k n ≡ c
        → P (cond c (cut_slot (event.first_meet + k) e event (part event.duration n k))
        (empty_slot (event.first_meet + k) e event))
    by true h = live (ltb-true k n h)
    by false h = free

-- the same with what the number tells
pub each_case : (P : Slot → Type 0) (e : ℕ) (event : EventInfo) (n k : ℕ)
    → (k < n → P (cut_slot (event.first_meet + k) e event (part event.duration n k)))
    → (n ≤ k → P (empty_slot (event.first_meet + k) e event)) → P (begun_slot e event n k)
unfolding begun_slot
each_case P e event n k live free = by (nat_lt k n) refl
  where
    by : (c : Bool) → nat_lt k n ≡ c
        → P (cond c (cut_slot (event.first_meet + k) e event (part event.duration n k))
        (empty_slot (event.first_meet + k) e event))
    by true h = live (ltb-true k n h)
    by false h = free (ltb-false k n h)

-- whose slots they are
emptied_slot : (e : ℕ) (event : EventInfo) (n k : ℕ)
    → emptied (begun_slot e event n k) ≡ empty_slot (event.first_meet + k) e event
emptied_slot e event n k =
    each_way (λ x. emptied x ≡ empty_slot (event.first_meet + k) e event) e event n k
    (λ l. ap (λ j. record {
      meet = record { 0 = event.first_meet + k };
      event = record { 0 = e };
      span = None;
      given = replicate j None;
    }) (length-map event.places (λ (place : Place). place.fixed)))
    (ap (λ j. record {
      meet = record { 0 = event.first_meet + k };
      event = record { 0 = e };
      span = None;
      given = replicate j None;
    }) (length-replicate (length event.places) None))

emptied_of : (e : ℕ) (event : EventInfo) (n k many : ℕ)
    → map emptied (map (begun_slot e event n) (range_with_len k many))
    ≡ map (λ m. empty_slot m e event) (range_with_len (event.first_meet + k) many)
emptied_of e event n k zero = refl
emptied_of e event n k (suc many) =
    let z : event.first_meet + (k + 1) ≡ event.first_meet + k + 1 = omega arith in
    let rest = emptied_of e event n (k + 1) many
    ∙ ap (λ j. map (λ m. empty_slot m e event) (range_with_len j many)) z in
    λ i. emptied_slot e event n k i ∷ rest i

emptied_from : (p : Parts) (e : ℕ) (events : List EventInfo) → map emptied (begun_from p e events) ≡ slots_from e events
emptied_from p e [] = refl
emptied_from p e (event ∷ events) =
    let n = amount_of p e event in
    let z : event.first_meet + 0 ≡ event.first_meet = omega arith in
    map-append emptied (begun_of e event n) (begun_from p (e + 1) events)
    ∙ (λ i. (emptied_of e event n 0 event.duration
    ∙ ap (λ j. map (λ m. empty_slot m e event) (range_with_len j event.duration)) z) i
    ++ emptied_from p (e + 1) events i)

-- each slot is one of an event
all_of : (P : Slot → Type 0) (e : ℕ) (event : EventInfo) (n k many : ℕ)
    → ((j : ℕ) → j < k + many → P (begun_slot e event n j))
    → All P (map (begun_slot e event n) (range_with_len k many))
all_of P e event n k zero h = All-nil P
all_of P e event n k (suc many) h =
    All-cons P (begun_slot e event n k) (map (begun_slot e event n) (range_with_len (k + 1) many))
    (h k (omega arith)) (all_of P e event n (k + 1) many (λ j l. h j (omega (arith, l))))

all_from : (P : Slot → Type 0) (p : Parts) (e : ℕ) (events : List EventInfo)
    → ((j : ℕ) (event : EventInfo) → slice_get events j ≡ Some event → (k : ℕ) → k < event.duration
    → P (begun_slot (e + j) event (amount_of p (e + j) event) k)) → All P (begun_from p e events)
all_from P p e [] h = All-nil P
all_from P p e (event ∷ events) h =
    let z : e + 0 ≡ e = omega arith in
    All-append P (begun_of e event (amount_of p e event)) (begun_from p (e + 1) events)
    (all_of P e event (amount_of p e event) 0 event.duration
    (λ k l. subst (λ x. P (begun_slot x event (amount_of p x event) k)) z (h 0 event refl k (omega (arith, l)))))
    (all_from P p (e + 1) events (λ j other at k l.
    (let y : e + suc j ≡ e + 1 + j = omega arith in
    subst (λ x. P (begun_slot x other (amount_of p x other) k)) y (h (suc j) other at k l))))

all_slots : (P : Slot → Type 0) (p : Parts)
    → ((e : ℕ) (event : EventInfo) → slice_get p.events e ≡ Some event → (k : ℕ) → k < event.duration
    → P (begun_slot e event (amount_of p e event) k)) → All P (begun_slots p)
unfolding begun_slots
all_slots P p h = all_from P p 0 p.events (λ j event at k l.
    (let z : j ≡ 0 + j = omega arith in subst (λ x. P (begun_slot x event (amount_of p x event) k)) z (h j event at k l)))

-- how many meets an event has
amount_by : (o : Option TimeId) (d n : ℕ) → 1 ≤ d → IsAmount d n → IsAmount d (cond (is_some o) 1 n)
amount_by None d n l h = h
amount_by (Some t) d n l h = record { some = omega arith; few = l }

pub amount_few : (p : Parts) (e : ℕ) (event : EventInfo) → 1 ≤ event.duration
    → IsAmount event.duration (amount_of p e event)
unfolding amount_of
amount_few p e event l =
    amount_by event.fixed event.duration (least_amount (bounds_of p e event.duration) event.duration) l
    (least_few (bounds_of p e event.duration) event.duration l)

amount_fixed : (p : Parts) (e : ℕ) (event : EventInfo) (t : TimeId) → event.fixed ≡ Some t → amount_of p e event ≡ 1
unfolding amount_of
amount_fixed p e event t h =
    ap (λ o. cond (is_some o) 1 (least_amount (bounds_of p e event.duration) event.duration)) h

-- a part lasts at least 1 and no longer than the whole
pub record IsPart (d x : ℕ) : Type 0 where
  pub some : 1 ≤ x
  pub few : x ≤ d

pub part_in : (d n k : ℕ) → IsAmount d n → k < n → IsPart d (part d n k)
unfolding widest
part_in d n k h l =
    let a = h.some in let b = h.few in
    let all : IsAllowed (widest d) d n = record { least = a; most = b; fit = omega (arith, b); fill = (let e = mul-le-mul_right d a in omega (arith, e)) } in
    record { some = part_above (widest d) d n k all l; few = part_below (widest d) d n k all l }

-- a slot without a meet
nothing_given : (n k : ℕ) (r : ResourceId) → slice_get (replicate n None) k ≡ Some (Some r) → ⊥
nothing_given zero k r e = none-some (Some r) e
nothing_given (suc n) zero r e = none-some r (same_Some None (Some r) e)
nothing_given (suc n) (suc k) r e = nothing_given n k r e

empty_is : (p : Parts) (m e : ℕ) (event : EventInfo) → IsSlot p (empty_slot m e event)
empty_is p m e event = record {
  duration = tt;
  ends = tt;
  given = λ x k place r a b c. absurd (nothing_given (length event.places) k r c);
  empty = λ h. ap (λ n. replicate n None) (sym (length-replicate (length event.places) None));
}

-- a slot with a meet, of an event whose part it is
ends_in : (p : Parts) (o : Option TimeId) (d x : ℕ) → x ≤ d → IfSome o (λ (t : TimeId). t.0 + d ≤ length p.times)
    → IfSome o (λ (t : TimeId). t.0 + x ≤ length p.times)
ends_in p None d x l h = tt
ends_in p (Some t) d x l h = omega (arith, l, h)

fixed_there : (places : List Place) (k : ℕ) (place : Place) (o : Option ResourceId) → slice_get places k ≡ Some place
    → slice_get (map (λ (y : Place). y.fixed) places) k ≡ Some o → place.fixed ≡ o
fixed_there places k place o at h =
    let m = slice_get-map (λ (y : Place). y.fixed) places k in
    let a : option_map (λ (y : Place). y.fixed) (slice_get places k) ≡ Some place.fixed = ap (option_map (λ (y : Place). y.fixed)) at in
    same_Some place.fixed o (sym a ∙ sym m ∙ h)

cut_is : (p : Parts) (m e d : ℕ) (event : EventInfo) → slice_get p.events e ≡ Some event → IsEvent p event
    → IsPart event.duration d → IsSlot p (cut_slot m e event d)
cut_is p m e d event at is part_is = record {
  duration = part_is.some;
  ends = ends_in p event.fixed event.duration d part_is.few is.fixed;
  given = λ x k place r a b c.
      (let same : x ≡ event = same_Some x event (sym a ∙ at) in
      let own : slice_get event.places k ≡ Some place = ap (λ (y : EventInfo). slice_get y.places k) (sym same) ∙ b in
      let f = fixed_there event.places k place (Some r) own c in
      if_given (HasType p place.rtype) place.fixed r f
      (all-there (IsPlace p) event.places k place is.places own).fixed);
  empty = λ h. absurd (let g : ⊥ = cc in g);
}

-- an event of an instance
event_is : (p : Parts) (e : ℕ) (event : EventInfo) → AreWellMade p → slice_get p.events e ≡ Some event
    → IsEvent p event
event_is p e event made at = all-there (IsEvent p) p.events e event made.events at

pub amount_at : (p : Parts) (e : ℕ) (event : EventInfo) → AreWellMade p → slice_get p.events e ≡ Some event
    → IsAmount event.duration (amount_of p e event)
amount_at p e event made at = amount_few p e event (event_is p e event made at).duration.0

slots_are : (p : Parts) → AreWellMade p → All (IsSlot p) (begun_slots p)
slots_are p made = all_slots (IsSlot p) p (λ e event at k l.
    each_case (IsSlot p) e event (amount_of p e event) k
    (λ b. cut_is p (event.first_meet + k) e (part event.duration (amount_of p e event) k) event at
    (event_is p e event made at) (part_in event.duration (amount_of p e event) k (amount_at p e event made at) b))
    (λ b. empty_is p (event.first_meet + k) e event))

-- what the slots of an event hold
held_slot : (e : ℕ) (event : EventInfo) (n k : ℕ) → held_by e (begun_slot e event n k) ≡ share event.duration n k
held_slot e event n k =
    let same = eq-eqb e e refl in
    each_case (λ x. held_by e x ≡ share event.duration n k) e event n k
    (λ l. ap (λ c. cond c (part event.duration n k) 0) same
    ∙ ap (λ c. cond c (part event.duration n k) 0) (sym (lt-ltb k n l)))
    (λ l. ap {B = ℕ} (λ c. cond c 0 0) same ∙ ap (λ c. cond c (part event.duration n k) 0) (sym (le-ltb k n l)))

other_slot : (e other : ℕ) (event : EventInfo) (n k : ℕ) → (other ≡ e → ⊥) → held_by e (begun_slot other event n k) ≡ 0
other_slot e other event n k h =
    each_case (λ x. held_by e x ≡ 0) other event n k
    (λ l. ap (λ c. cond c (part event.duration n k) 0) (ne_eqb other e h))
    (λ l. ap {B = ℕ} (λ c. cond c 0 0) (ne_eqb other e h))

held_shares : (e : ℕ) (event : EventInfo) (n k many : ℕ)
    → held e (map (begun_slot e event n) (range_with_len k many))
    ≡ sum_by (share event.duration n) (map (λ j. j) (range_with_len k many))
held_shares e event n k zero = refl
held_shares e event n k (suc many) =
    let a = sum_by-cons (held_by e) (begun_slot e event n k)
    (map (begun_slot e event n) (range_with_len (k + 1) many)) in
    let b = sum_by-cons (share event.duration n) k (map (λ j. j) (range_with_len (k + 1) many)) in
    let r = held_shares e event n (k + 1) many in
    let s = held_slot e event n k in
    omega (arith, a, b, r, s)

held_none : (e other : ℕ) (event : EventInfo) (n k many : ℕ) → (other ≡ e → ⊥)
    → held e (map (begun_slot other event n) (range_with_len k many)) ≡ 0
held_none e other event n k zero h = refl
held_none e other event n k (suc many) h =
    let a = sum_by-cons (held_by e) (begun_slot other event n k)
    (map (begun_slot other event n) (range_with_len (k + 1) many)) in
    let r = held_none e other event n (k + 1) many h in
    let s = other_slot e other event n k h in
    omega (arith, a, r, s)

held_before : (p : Parts) (e from : ℕ) (events : List EventInfo) → e < from → held e (begun_from p from events) ≡ 0
held_before p e from [] l = refl
held_before p e from (event ∷ events) l =
    let a = sum_by-append (held_by e) (begun_of from event (amount_of p from event)) (begun_from p (from + 1) events) in
    let b = held_none e from event (amount_of p from event) 0 event.duration (λ h. omega (arith, h, l)) in
    let c = held_before p e (from + 1) events (omega (arith, l)) in
    omega (arith, a, b, c)

held_whole : (p : Parts) (from number : ℕ) (event : EventInfo) (events : List EventInfo)
    → slice_get events number ≡ Some event
    → IsAmount event.duration (amount_of p (from + number) event)
    → held (from + number) (begun_from p from events) ≡ event.duration
held_whole p from number event [] at h = absurd (none-some event at)
held_whole p from zero event (x ∷ events) at h =
    let same : x ≡ event = same_Some x event at in
    let z : from + 0 ≡ from = omega arith in
    let own : IsAmount event.duration (amount_of p from event) = subst (λ j. IsAmount event.duration (amount_of p j event)) z h in
    let a = sum_by-append (held_by from) (begun_of from x (amount_of p from x)) (begun_from p (from + 1) events) in
    let b = held_shares from x (amount_of p from x) 0 x.duration
    ∙ (λ i. sum_by (share (same i).duration (amount_of p from (same i))) (map (λ j. j) (range_with_len 0 (same i).duration)))
    ∙ shares_whole event.duration (amount_of p from event) own in
    let c = held_before p from (from + 1) events (omega arith) in
    ap (λ j. held j (begun_from p from (x ∷ events))) z ∙ (let r : held from (begun_from p from (x ∷ events)) ≡ event.duration = omega (arith, a, b, c) in r)
held_whole p from (suc number) event (x ∷ events) at h =
    let z : from + suc number ≡ from + 1 + number = omega arith in
    let own = subst (λ j. IsAmount event.duration (amount_of p j event)) z h in
    let e = from + 1 + number in
    let a = sum_by-append (held_by e) (begun_of from x (amount_of p from x)) (begun_from p (from + 1) events) in
    let b = held_none e from x (amount_of p from x) 0 x.duration (λ h. omega (arith, h)) in
    let c = held_whole p (from + 1) number event events at own in
    ap (λ j. held j (begun_from p from (x ∷ events))) z ∙ (let r : held e (begun_from p from (x ∷ events)) ≡ event.duration = omega (arith, a, b, c) in r)

whole : (p : Parts) (e : ℕ) (event : EventInfo) → AreWellMade p → slice_get p.events e ≡ Some event
    → held e (begun_slots p) ≡ event.duration
unfolding begun_slots
whole p e event made at =
    let z : e ≡ 0 + e = omega arith in
    ap (λ j. held j (begun_from p 0 p.events)) z
    ∙ held_whole p 0 e event p.events at
    (subst (λ j. IsAmount event.duration (amount_of p j event)) z (amount_at p e event made at))

-- an event with a preassigned time has one meet, which starts then
one_part : (d : ℕ) → part d 1 0 ≡ d
unfolding part
one_part d =
    let e : d % 1 ≡ 0 = omega arith in
    let f : d / 1 ≡ d = omega arith in
    (λ i. f i + cond (nat_lt 0 (e i)) 1 0) ∙ (omega arith)

fixed_slot : (p : Parts) (e : ℕ) (event : EventInfo) (t : TimeId) (other : ℕ) (x : EventInfo) (k : ℕ)
    → slice_get p.events e ≡ Some event → event.fixed ≡ Some t → slice_get p.events other ≡ Some x
    → IsFixedAs e t event.duration (begun_slot other x (amount_of p other x) k)
fixed_slot p e event t other x k at f there =
    each_case (IsFixedAs e t event.duration) other x (amount_of p other x) k
    (λ l same live.
    (let own : x ≡ event = same_Some x event (sym there ∙ ap (slice_get p.events) same ∙ at) in
    let one = amount_fixed p other x t (ap (λ (y : EventInfo). y.fixed) own ∙ f) in
    let first : k ≡ 0 = omega (arith, l, one) in (
      ap (λ (y : EventInfo). y.fixed) own ∙ f,
      (λ i. part (own i).duration (one i) (first i)) ∙ one_part event.duration,
    )))
    (λ l same live. absurd (let g : ⊥ = cc in g))

-- and a place with a preassigned resource has it
kept_slot : (p : Parts) (e : ℕ) (event : EventInfo) (k : ℕ) → slice_get p.events e ≡ Some event
    → IsKeptBy p (begun_slot e event (amount_of p e event) k)
kept_slot p e event k at =
    each_case (IsKeptBy p) e event (amount_of p e event) k
    (λ l j place r there f live.
    (let o = place_there p.events e j place there in
    let same : o.event ≡ event = same_Some o.event event (sym o.there ∙ at) in
    let own : slice_get event.places j ≡ Some place = ap (λ (y : EventInfo). slice_get y.places j) (sym same) ∙ o.here in
    get_or_from_slice_get (map (λ (y : Place). y.fixed) event.places) j (Some r) None
    (slice_get-map (λ (y : Place). y.fixed) event.places j
    ∙ ap (option_map (λ (y : Place). y.fixed)) own ∙ ap Some f)))
    (λ l j place r there f live. absurd (let g : ⊥ = cc in g))

emptied_slots : (p : Parts) → map emptied (begun_slots p) ≡ no_meets p
unfolding begun_slots
emptied_slots p = emptied_from p 0 p.events

pub begun_valid : (p : Parts) → AreWellMade p → AreValid p (begun_slots p)
begun_valid p made = record {
  told = record {
    whose = emptied_slots p;
    slots = slots_are p made;
    durations = λ e event at. (let w = whole p e event made at in omega (arith, w));
  };
  whole = λ e event at. whole p e event made at;
  fixed = λ e event t at f. all_slots (IsFixedAs e t event.duration) p
      (λ other x there k l. fixed_slot p e event t other x k at f there);
  kept = all_slots (IsKeptBy p) p (λ e event at k l. kept_slot p e event k at);
}
