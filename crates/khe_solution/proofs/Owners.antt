-- Whose the slots of a told state are: each event has as many as its duration, each with a place for
-- each of its places, and one of them is free while a meet of the event could be cut.
use Rattle.std.proofs.Common.{ℕ, ◌≡◌, ◌+◌, ◌-◌, ◌*◌, ◌^◌, ◌<◌, ◌≤◌, zero, suc, Bool, true, false, cond, Option, Some}
use Rattle.std.proofs.Common.{None, List, [], ◌∷◌, ◌++◌, map, length, slice_get, refl, sym, ap, subst, ◌∙◌, arith, inl}
use Rattle.std.proofs.Common.{inr, zero-add, length-append}
use Rattle.std.specs.Prelude.{All, ◌&&◌, ◌==◌, is_none, IfSome}
use Rattle.std.specs.List.{range_with_len}
use Rattle.std.specs.Option.{option_map_or}
use Rattle.std.proofs.Math.ListN.{get_or-append}
use Rattle.std.proofs.Math.Seq.{get_or-append_right}
use Rattle.std.proofs.lemmas.Bool.{cases_lt, ne_eqb, eq-eqb}
use Rattle.std.proofs.lemmas.List.{length-replicate, length-map, get_or_past}
use Rattle.std.proofs.lemmas.List.FromFn.{get_or-map-range_with_len, length-map-range_with_len}
use Rattle.std.proofs.lemmas.List.Elements.{All-get_or}
use Rattle.std.proofs.lemmas.List.Sums.{sum_by-cons, sum_by-set, fails_before_first}
use Rattle.khe_base.proofs.ListLemmas.{all-there}
use Rattle.khe_base.specs.declared.limits.TheConstants.{NUMBER}
use Rattle.khe_instance.specs.WellMade.{AreWellMade, IsEvent}
use Rattle.khe_instance.specs.declared.parts.EventInfo.{EventInfo}
use Rattle.khe_instance.specs.declared.parts.Parts.{Parts}
use Rattle.khe_told.specs.Slots.{empty_slot, slots_of_event, slots_from, no_meets, emptied, no_slot, slot_at, length_of}
use Rattle.khe_told.specs.Slots.{held_by, held}
use Rattle.khe_told.specs.Fits.{AreTold, IsSlot}
use Rattle.khe_told.specs.declared.slots.Slot.{Slot}
use Rattle.khe_told.specs.declared.slots.Span.{Span}
use Rattle.khe_solution.specs.Reading.{is_free_of, free_slot}
use Rattle.khe_solution.specs.Timetables.{HasRoom, AreRoomy}
use Rattle.khe_solution.proofs.Basics.{true-false}
use Rattle.std.proofs.lemmas.Option.{same_Some}

-- how many of these slots are an event's
abbrev pub owns : ℕ → List Slot → ℕ
owns e [] = 0
owns e (x ∷ xs) = cond (x.event.0 == e) 1 0 + owns e xs

owns_both : (e : ℕ) (xs ys : List Slot) → owns e (xs ++ ys) ≡ owns e xs + owns e ys
owns_both e [] ys = sym (zero-add _)
owns_both e (x ∷ xs) ys = let h = owns_both e xs ys in omega (arith, h)

owns_emptied : (e : ℕ) (s : List Slot) → owns e (map emptied s) ≡ owns e s
owns_emptied e [] = refl
owns_emptied e (x ∷ xs) = ap (λ n. cond (x.event.0 == e) 1 0 + n) (owns_emptied e xs)

none_more : (b : Bool) → ◌≡◌ {A = ℕ} (cond b 0 0) 0
none_more true = refl
none_more false = refl

one_more : (b : Bool) (d k : ℕ) → k ≡ cond b d 0 → cond b 1 0 + k ≡ cond b (suc d) 0
one_more true d k h = omega (arith, h)
one_more false d k h = omega (arith, h)

owns_range : (e n a d : ℕ) (event : EventInfo)
    → owns e (map (λ m. empty_slot m n event) (range_with_len a d)) ≡ cond (n == e) d 0
owns_range e n a zero event = sym (none_more (n == e))
owns_range e n a (suc d) event = one_more (n == e) d
    (owns e (map (λ m. empty_slot m n event) (range_with_len (a + 1) d))) (owns_range e n (a + 1) d event)

owns_above : (e n : ℕ) (events : List EventInfo) → e < n → owns e (slots_from n events) ≡ 0
owns_above e n [] l = refl
owns_above e n (x ∷ xs) l =
    let a = owns_both e (slots_of_event n x) (slots_from (n + 1) xs) in
    let b = owns_range e n x.first_meet x.duration x in
    let d : n ≡ e → ⊥ = λ q. omega (arith, q, l) in
    let c : cond (n == e) x.duration 0 ≡ 0 = ap (λ t. cond t x.duration 0) (ne_eqb n e d) in
    let h = owns_above e (n + 1) xs (omega (arith, l)) in
    omega (arith, a, b, c, h)

owns_from : (n k : ℕ) (events : List EventInfo) (event : EventInfo) → slice_get events k ≡ Some event
    → owns (n + k) (slots_from n events) ≡ event.duration
owns_from n zero [] event h = absurd (none_there event h)
  where
    none_there : (ev : EventInfo) → slice_get [] 0 ≡ Some ev → ⊥
    none_there ev q = cc
owns_from n (suc j) [] event h = absurd (none_there event h)
  where
    none_there : (ev : EventInfo) → slice_get [] (suc j) ≡ Some ev → ⊥
    none_there ev q = cc
owns_from n zero (x ∷ xs) event h =
    let e : n + 0 ≡ n = omega arith in
    let a = owns_both n (slots_of_event n x) (slots_from (n + 1) xs) in
    let b = owns_range n n x.first_meet x.duration x in
    let c : cond (n == n) x.duration 0 ≡ x.duration = ap (λ t. cond t x.duration 0) (eq-eqb n n refl) in
    let d = owns_above n (n + 1) xs (omega arith) in
    let f : x.duration ≡ event.duration = ap (λ (z : EventInfo). z.duration) (same_Some x event h) in
    ap (λ q. owns q (slots_from n (x ∷ xs))) e ∙ omega (arith, a, b, c, d, f)
owns_from n (suc j) (x ∷ xs) event h =
    let e : n + suc j ≡ (n + 1) + j = omega arith in
    let a = owns_both ((n + 1) + j) (slots_of_event n x) (slots_from (n + 1) xs) in
    let b = owns_range ((n + 1) + j) n x.first_meet x.duration x in
    let o : n ≡ (n + 1) + j → ⊥ = λ q. omega (arith, q) in
    let c : cond (n == ((n + 1) + j)) x.duration 0 ≡ 0 = ap (λ t. cond t x.duration 0) (ne_eqb n ((n + 1) + j) o) in
    let d = owns_from (n + 1) j xs event h in
    ap (λ q. owns q (slots_from n (x ∷ xs))) e ∙ omega (arith, a, b, c, d)

pub owned : (p : Parts) (s : List Slot) (e : ℕ) (event : EventInfo) → AreTold p s → slice_get p.events e ≡ Some event
    → owns e s ≡ event.duration
owned p s e event t g =
    sym (owns_emptied e s) ∙ ap (owns e) t.whose ∙ ap (λ q. owns q (no_meets p)) (sym (zero-add e))
    ∙ owns_from 0 e p.events event g

-- where no slot of an event is free, its meets last at least as long as it has slots, and longer if
-- one of them does not take a slot alone
slot_held : (b : Bool) (o : Option Span) → IfSome o (λ y. 1 ≤ y.duration) → (b && is_none o) ≡ false
    → cond b 1 0 ≤ cond b (option_map_or (λ (y : Span). y.duration) o 0) 0
slot_held true None i h = absurd (true-false h)
slot_held true (Some y) i h = i
slot_held false o i h = omega arith

busy_held : (p : Parts) (e : ℕ) (s : List Slot) → ((k : ℕ) → k < length s → IsSlot p (slot_at s k))
    → ((k : ℕ) → k < length s → is_free_of e (slot_at s k) ≡ false) → owns e s ≤ held e s
busy_held p e [] i f = omega arith
busy_held p e (x ∷ xs) i f =
    let c = sum_by-cons (held_by e) x xs in
    let h = busy_held p e xs (λ k l. i (suc k) (omega (arith, l))) (λ k l. f (suc k) (omega (arith, l))) in
    let o = slot_held (x.event.0 == e) x.span (i 0 (omega arith)).duration (f 0 (omega arith)) in
    omega (arith, c, h, o)

busy_more : (p : Parts) (e m : ℕ) (s : List Slot) → ((k : ℕ) → k < length s → IsSlot p (slot_at s k))
    → ((k : ℕ) → k < length s → is_free_of e (slot_at s k) ≡ false)
    → (slot_at s m).event.0 ≡ e → 2 ≤ length_of (slot_at s m) → owns e s + 1 ≤ held e s
busy_more p e m [] i f w l = absurd (omega (arith, l))
busy_more p e zero (x ∷ xs) i f w l =
    let c = sum_by-cons (held_by e) x xs in
    let h = busy_held p e xs (λ k q. i (suc k) (omega (arith, q))) (λ k q. f (suc k) (omega (arith, q))) in
    let t = eq-eqb x.event.0 e w in
    let a : ◌≡◌ {A = ℕ} (cond (x.event.0 == e) 1 0) 1 = ap (λ b. cond b 1 0) t in
    let b : held_by e x ≡ length_of x = ap (λ q. cond q (length_of x) 0) t in
    omega (arith, c, h, a, b, l)
busy_more p e (suc m) (x ∷ xs) i f w l =
    let c = sum_by-cons (held_by e) x xs in
    let h = busy_more p e m xs (λ k q. i (suc k) (omega (arith, q))) (λ k q. f (suc k) (omega (arith, q))) w l in
    let o = slot_held (x.event.0 == e) x.span (i 0 (omega arith)).duration (f 0 (omega arith)) in
    omega (arith, c, h, o)

-- the event of a slot, which has as many places
pub record Owner (p : Parts) (x : Slot) : Type 0 where
  pub event : EventInfo
  pub there : slice_get p.events x.event.0 ≡ Some event
  pub places : length event.places ≡ length x.given

pub length_slots : (n : ℕ) (x : EventInfo) → length (slots_of_event n x) ≡ x.duration
length_slots n x = length-map-range_with_len (λ m. empty_slot m n x) x.first_meet x.duration

owner_from : (p : Parts) (n m : ℕ) (events : List EventInfo)
    → ((k : ℕ) (event : EventInfo) → slice_get events k ≡ Some event → slice_get p.events (n + k) ≡ Some event)
    → m < length (slots_from n events) → Owner p (slot_at (slots_from n events) m)
owner_from p n m [] h l = absurd (omega (arith, l))
owner_from p n m (x ∷ xs) h l =
    let front = slots_of_event n x in
    let back = slots_from (n + 1) xs in
    let size = length_slots n x in
    let all = length-append front back in
    elim (cases_lt m x.duration) [
      | inl i ↦
          let there : slot_at (front ++ back) m ≡ empty_slot (x.first_meet + m) n x =
          get_or-append front back no_slot m (omega (arith, size, i))
          ∙ get_or-map-range_with_len (λ k. empty_slot k n x) x.first_meet x.duration m (x.first_meet + m) no_slot i
          refl in
          subst (Owner p) (sym there) (record {
            event = x;
            there = ap (slice_get p.events) (omega arith) ∙ h 0 x refl;
            places = sym (length-replicate (length x.places) None);
          })
      | inr o ↦
          let there : slot_at (front ++ back) m ≡ slot_at back (m - length front) =
          get_or-append_right front back m no_slot (omega (arith, size, o)) in
          subst (Owner p) (sym there) (owner_from p (n + 1) (m - length front) xs
          (λ k event g. ap (slice_get p.events) (omega arith) ∙ h (suc k) event g) (omega (arith, size, all, o, l)))
    ]

pub emptied_at : (s : List Slot) (m : ℕ) → slot_at (map emptied s) m ≡ emptied (slot_at s m)
emptied_at [] m = refl
emptied_at (x ∷ xs) zero = refl
emptied_at (x ∷ xs) (suc m) = emptied_at xs m

pub owner : (p : Parts) (s : List Slot) (m : ℕ) → AreTold p s → m < length s → Owner p (slot_at s m)
owner p s m t l =
    let x = slot_at s m in
    let same : slot_at (no_meets p) m ≡ emptied x = sym (ap (λ q. slot_at q m) t.whose) ∙ emptied_at s m in
    let size = sym (ap length t.whose) ∙ length-map s emptied in
    let o : Owner p (emptied x) = subst (Owner p) same
    (owner_from p 0 m p.events (λ k event g. ap (slice_get p.events) (zero-add k) ∙ g) (omega (arith, size, l))) in
    record { event = o.event; there = o.there; places = o.places ∙ length-replicate (length x.given) None }

-- two slots of one event have as many places
pub equal_places : (p : Parts) (s : List Slot) (m n : ℕ) → AreTold p s → m < length s → n < length s
    → (slot_at s n).event.0 ≡ (slot_at s m).event.0 → length (slot_at s n).given ≡ length (slot_at s m).given
equal_places p s m n t l k e =
    let a = owner p s m t l in
    let b = owner p s n t k in
    let same : b.event ≡ a.event = same_Some b.event a.event (sym b.there ∙ ap (slice_get p.events) e ∙ a.there) in
    sym b.places ∙ ap (λ (z : EventInfo). length z.places) same ∙ a.places

-- a meet that could be cut leaves a slot of its event free
pub free_there : (p : Parts) (s : List Slot) (m : ℕ) → AreTold p s → m < length s → 2 ≤ length_of (slot_at s m)
    → free_slot s (slot_at s m).event.0 < length s
free_there p s m t l d =
    let e = (slot_at s m).event.0 in
    elim (cases_lt (free_slot s e) (length s)) [
      | inl h ↦ h
      | inr h ↦
          let o = owner p s m t l in
          let a = owned p s e o.event t o.there in
          let b = t.durations e o.event o.there in
          let c = busy_more p e m s (λ k q. All-get_or (IsSlot p) s k no_slot q t.slots)
          (λ k q. fails_before_first (is_free_of e) s k no_slot (omega (arith, q, h))) refl d in
          absurd (omega (arith, a, b, c))
    ]

-- what one slot holds is no more than all slots hold
pub one_held : (e : ℕ) (s : List Slot) (m : ℕ) → m < length s → held_by e (slot_at s m) ≤ held e s
one_held e s m l =
    let x = slot_at s m in
    let a = sum_by-set (held_by e) s m (emptied x) no_slot l in
    let b : held_by e (emptied x) ≡ 0 = none_more (x.event.0 == e) in
    omega (arith, a, b)

-- a meet is no longer than its event
short_for : (p : Parts) (s : List Slot) (m : ℕ) → AreTold p s → All (IsEvent p) p.events → m < length s
    → length_of (slot_at s m) ≤ NUMBER
short_for p s m t w l =
    let x = slot_at s m in
    let o = owner p s m t l in
    let a = one_held x.event.0 s m l in
    let b : held_by x.event.0 x ≡ length_of x = ap (λ c. cond c (length_of x) 0) (eq-eqb x.event.0 x.event.0 refl) in
    let c = t.durations x.event.0 o.event o.there in
    let d = (all-there (IsEvent p) p.events x.event.0 o.event w o.there).duration.1 in
    omega (arith, a, b, c, d)

-- the room of an event is room for each of its slots
pub room_for : (p : Parts) (s : List Slot) (c : ℕ) → AreTold p s → AreWellMade p → HasRoom p c → AreRoomy s c
room_for p s c t w r = record { least = r.least; each = λ m. (at m).0; few = λ m. (at m).1; short = λ m. (at m).2 }
  where
    at : (m : ℕ) → (3 * length (slot_at s m).given + 6 ≤ c) × (length (slot_at s m).given < 2 ^ 32)
        × (length_of (slot_at s m) < 2 ^ 31)
    at m = elim (cases_lt m (length s)) [
      | inl l ↦
          let o = owner p s m t l in
          let a = r.each (slot_at s m).event.0 o.event o.there in
          let b = r.few (slot_at s m).event.0 o.event o.there in
          let e = o.places in
          let d = short_for p s m t w.events l in
          (omega (arith, a, e), omega (arith, b, e), omega (arith, d))
      | inr g ↦
          let past = get_or_past s m no_slot g in
          let e : length (slot_at s m).given ≡ 0 = ap (λ (x : Slot). length x.given) past in
          let d : length_of (slot_at s m) ≡ 0 = ap length_of past in
          let a = r.least in
          (omega (arith, a, e), omega (arith, e), omega (arith, d))
    ]
