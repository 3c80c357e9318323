-- What the slots of an instance's told states have in common, since all are those of the instance.
use Rattle.std.proofs.Common.{ℕ, ◌≡◌, ◌+◌, ◌-◌, ◌<◌, ◌≤◌, zero, suc, Some, None, List, [], ◌∷◌, ◌++◌, length, get_or}
use Rattle.std.proofs.Common.{map, slice_get, refl, sym, ap, subst, ◌∙◌, arith}
use Rattle.std.specs.Prelude.{All}
use Rattle.std.specs.List.{range_with_len}
use Rattle.std.specs.Option.{option_map_or}
use Rattle.std.proofs.Math.Seq.{get_or-append_right}
use Rattle.std.proofs.lemmas.List.{get_or_append_left, length-append, length-replicate}
use Rattle.std.proofs.lemmas.List.FromFn.{get_or-map-range_with_len, length-map-range_with_len}
use Rattle.std.proofs.lemmas.Option.{same_Some, slice_get_within}
use Rattle.std.proofs.lemmas.List.Elements.{All-nil, All-cons, All-head, All-tail, All-append}
use Rattle.khe_instance.specs.Lookups.{places_at}
use Rattle.khe_instance.specs.Slots.{HasSlot}
use Rattle.khe_instance.specs.WellMade.{AreFirstMeets}
use Rattle.khe_instance.specs.declared.parts.EventInfo.{EventInfo}
use Rattle.khe_instance.specs.declared.parts.Parts.{Parts}
use Rattle.khe_told.proofs.DutyLaws.{AreFrom}
use Rattle.khe_told.specs.Slots.{emptied, empty_slot, no_meets, no_slot, slot_at, slots_from, slots_of_event}
use Rattle.khe_told.specs.declared.slots.Slot.{Slot}

-- a slot is one of its event, and has an entry for each place
pub record IsFrame (events : List EventInfo) (x : Slot) : Type 0 where
  pub slot : HasSlot events x.event.0 x.meet.0
  pub places : length x.given ≡ places_at events x.event.0

frame_of : (events : List EventInfo) (e : ℕ) (event : EventInfo) (m : ℕ) → slice_get events e ≡ Some event
    → event.first_meet ≤ m → m < event.first_meet + event.duration → IsFrame events (empty_slot m e event)
frame_of events e event m at from to = record {
  slot = (event, at, from, to);
  places = length-replicate (length event.places) None
      ∙ sym (ap (λ o. option_map_or (λ (x : EventInfo). length x.places) o 0) at);
}

frames_of_event : (events : List EventInfo) (e : ℕ) (event : EventInfo) (m n : ℕ) → slice_get events e ≡ Some event
    → event.first_meet ≤ m → m + n ≤ event.first_meet + event.duration
    → All (IsFrame events) (map (λ k. empty_slot k e event) (range_with_len m n))
frames_of_event events e event m zero at from to = All-nil (IsFrame events)
frames_of_event events e event m (suc n) at from to =
    All-cons (IsFrame events) (empty_slot m e event) (map (λ k. empty_slot k e event) (range_with_len (m + 1) n))
    (frame_of events e event m at from (omega (arith, to)))
    (frames_of_event events e event (m + 1) n at (omega (arith, from)) (omega (arith, to)))

-- the events from a number on
abbrev AreTheRest : List EventInfo → ℕ → List EventInfo → Type 0
AreTheRest events e rest = (j : ℕ) (event : EventInfo) → slice_get rest j ≡ Some event
    → slice_get events (e + j) ≡ Some event

frames_from : (events rest : List EventInfo) (e first : ℕ) → AreTheRest events e rest → AreFirstMeets first rest
    → All (IsFrame events) (slots_from e rest)
frames_from events [] e first h f = All-nil (IsFrame events)
frames_from events (x ∷ rest) e first h f =
    let z : e + 0 ≡ e = omega arith in
    let at : slice_get events e ≡ Some x = ap (slice_get events) (sym z) ∙ h 0 x refl in
    let later : AreTheRest events (e + 1) rest = λ j event there.
    (let n : e + 1 + j ≡ e + suc j = omega arith in ap (slice_get events) n ∙ h (suc j) event there) in
    All-append (IsFrame events) (slots_of_event e x) (slots_from (e + 1) rest)
    (frames_of_event events e x x.first_meet x.duration at (omega arith) (omega arith))
    (frames_from events rest (e + 1) (first + x.duration) later f.1)

-- whatever is true of a slot by its numbers and how many entries it has is true with any meet
frames_told : (events : List EventInfo) (s : List Slot) → All (IsFrame events) (map emptied s) → All (IsFrame events) s
frames_told events [] h = All-nil (IsFrame events)
frames_told events (x ∷ s) h =
    let f = All-head (IsFrame events) (emptied x) (map emptied s) h in
    All-cons (IsFrame events) x s
    (record { slot = f.slot; places = sym (length-replicate (length x.given) None) ∙ f.places })
    (frames_told events s (All-tail (IsFrame events) (emptied x) (map emptied s) h))

pub frames : (p : Parts) (s : List Slot) → AreFirstMeets 0 p.events → map emptied s ≡ no_meets p
    → All (IsFrame p.events) s
frames p s first whose =
    frames_told p.events s (subst (All (IsFrame p.events)) (sym whose)
    (frames_from p.events p.events 0 0 (λ j event at.
    (let z : 0 + j ≡ j = omega arith in ap (slice_get p.events) z ∙ at)) first))

-- the numbers of the slots ascend
from_more : (low m n e : ℕ) (event : EventInfo) (rest : List Slot) → low ≤ m → AreFrom (m + n) rest
    → AreFrom low (map (λ k. empty_slot k e event) (range_with_len m n) ++ rest)
from_more low m zero e event rest l h = from_less low (m + 0) rest (omega (arith, l)) h
  where
    from_less : (low high : ℕ) (rest : List Slot) → low ≤ high → AreFrom high rest → AreFrom low rest
    from_less low high [] l h = tt
    from_less low high (x ∷ rest) l h = (let k = h.0 in omega (arith, k, l), h.1)
from_more low m (suc n) e event rest l h =
    let more : m + suc n ≡ m + 1 + n = omega arith in
    (l, from_more (m + 1) (m + 1) n e event rest (omega arith) (subst (λ k. AreFrom k rest) more h))

from_events : (e first : ℕ) (events : List EventInfo) → AreFirstMeets first events → AreFrom first (slots_from e events)
from_events e first [] f = tt
from_events e first (x ∷ events) f =
    let a = f.0 in
    from_more first x.first_meet x.duration e x (slots_from (e + 1) events) (omega (arith, a))
    (subst (λ n. AreFrom (n + x.duration) (slots_from (e + 1) events)) (sym a)
    (from_events (e + 1) (first + x.duration) events f.1))

from_told : (low : ℕ) (s : List Slot) → AreFrom low (map emptied s) → AreFrom low s
from_told low [] h = tt
from_told low (x ∷ s) h = (h.0, from_told (x.meet.0 + 1) s h.1)

pub told_from : (p : Parts) (s : List Slot) → AreFirstMeets 0 p.events → map emptied s ≡ no_meets p → AreFrom 0 s
told_from p s first whose = from_told 0 s (subst (AreFrom 0) (sym whose) (from_events 0 0 p.events first))

-- where an event's slot stands among those of events that are numbered on
pub record IsStanding (e first k number : ℕ) (event : EventInfo) (events : List EventInfo) : Type 0 where
  pub from : first ≤ k
  pub within : k - first < length (slots_from e events)
  pub value : slot_at (slots_from e events) (k - first) ≡ empty_slot k (e + number) event

pub standing : (e first k number : ℕ) (event : EventInfo) (events : List EventInfo) → AreFirstMeets first events
    → slice_get events number ≡ Some event
    → event.first_meet ≤ k → k < event.first_meet + event.duration → IsStanding e first k number event events
standing e first k number event [] f at from to =
    absurd (let l = slice_get_within [] number event at in omega (arith, l))
standing e first k zero event (x ∷ events) f at from to =
    let is = same_Some x event at in
    let a = f.0 in
    let b = ap (λ (y : EventInfo). y.first_meet) is in
    let d = ap (λ (y : EventInfo). y.duration) is in
    let own = slots_of_event e x in
    let later = slots_from (e + 1) events in
    let many = length-map-range_with_len (λ j. empty_slot j e x) x.first_meet x.duration in
    let l : k - first < length own = omega (arith, many, a, b, d, from, to) in
    let z : e ≡ e + 0 = omega arith in
    let l2 : k - first < x.duration = omega (arith, a, b, d, from, to) in
    let here : x.first_meet + (k - first) ≡ k = omega (arith, a, b, from) in
    record {
      from = omega (arith, a, b, from);
      within = let m = length-append own later in omega (arith, l, m);
      value = get_or_append_left own later no_slot (k - first) l
          ∙ get_or-map-range_with_len (λ j. empty_slot j e x) x.first_meet x.duration (k - first) k no_slot l2 here
          ∙ (λ i. empty_slot k (z i) (is i));
    }
standing e first k (suc number) event (x ∷ events) f at from to =
    let r = standing (e + 1) (first + x.duration) k number event events f.1 at from to in
    let own = slots_of_event e x in
    let later = slots_from (e + 1) events in
    let many = length-map-range_with_len (λ j. empty_slot j e x) x.first_meet x.duration in
    let low = r.from in
    let past : length own ≤ k - first = omega (arith, many, low) in
    let back : k - first - length own ≡ k - (first + x.duration) = omega (arith, many, low) in
    let n : e + 1 + number ≡ e + suc number = omega arith in
    record {
      from = omega (arith, low);
      within = let m = length-append own later in let w = r.within in omega (arith, m, w, back, past);
      value = get_or-append_right own later (k - first) no_slot past
          ∙ ap (λ j. get_or later j no_slot) back ∙ r.value ∙ ap (λ j. empty_slot k j event) n;
    }
