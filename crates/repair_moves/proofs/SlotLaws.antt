-- What is known of the slots of a valid timetable by their numbers.
use Rattle.std.proofs.Common.{ℕ, ◌≡◌, ◌<◌, ◌≤◌, true, false, Option, Some, None, List, length, get_or, sym, ap, ◌∙◌}
use Rattle.std.proofs.Common.{subst, arith, inl, inr}
use Rattle.std.specs.Prelude.{IfSome, is_some, replicate}
use Rattle.std.specs.Option.{option_map_or}
use Rattle.std.proofs.lemmas.Bool.{cases_lt}
use Rattle.std.proofs.lemmas.List.{get_or_past, get_or-replicate, length-replicate}
use Rattle.khe_base.specs.declared.numbers.ResourceId.{ResourceId}
use Rattle.std.proofs.lemmas.List.Elements.{All-get_or}
use Rattle.khe_instance.specs.Slots.{HasSlot, slots_from}
use Rattle.khe_instance.specs.WellMade.{AreWellMade}
use Rattle.khe_instance.specs.declared.parts.Parts.{Parts}
use Rattle.khe_instance.proofs.SlotsLemmas.{length-slots_from, slot-event}
use Rattle.khe_told.proofs.FillingLaws.{slot_of}
use Rattle.khe_told.specs.Fits.{AreTold, IsSlot}
use Rattle.khe_told.specs.Slots.{is_live, length_of, given_at, no_slot, slot_at}
use Rattle.khe_told.specs.declared.slots.Slot.{Slot}
use Rattle.khe_told.specs.declared.slots.Span.{Span}
use Rattle.khe_solution.proofs.Basics.{live_there, no_value, true-false}
use Rattle.khe_solution.proofs.NumberLaws.{slots_told}
use Rattle.khe_solution.proofs.Owners.{Owner, owner}
use Rattle.repair_moves.specs.Items.{meet_slots}

-- each number below the slots is one of its slot's event
pub event_at : (p : Parts) (s : List Slot) (k : ℕ) → AreWellMade p → AreTold p s → k < meet_slots p
    → HasSlot p.events (slot_at s k).event.0 k
event_at p s k made told l =
    let e = get_or (slots_from 0 p.events) k 0 in
    let many = length-slots_from 0 p.events in
    let has = slot-event k p.events made.first_meets (omega (arith, l, many)) in
    let is = (slot_of p s e k made.first_meets told.whose has).event in
    subst (λ n. HasSlot p.events n k) (sym is) has

pub slot_below : (p : Parts) (s : List Slot) (k : ℕ) → AreWellMade p → AreTold p s → is_live (slot_at s k) ≡ true
    → k < meet_slots p
slot_below p s k made told h =
    let l = live_there s k h in
    let many = slots_told p s made.first_meets told in
    omega (arith, l, many)

pub live_event : (p : Parts) (s : List Slot) (k : ℕ) → AreWellMade p → AreTold p s → is_live (slot_at s k) ≡ true
    → HasSlot p.events (slot_at s k).event.0 k
live_event p s k made told h = event_at p s k made told (slot_below p s k made told h)

pub live_owner : (p : Parts) (s : List Slot) (k : ℕ) → AreTold p s → is_live (slot_at s k) ≡ true
    → Owner p (slot_at s k)
live_owner p s k told h = owner p s k told (live_there s k h)

pub told_slot : (p : Parts) (s : List Slot) (m : ℕ) → AreTold p s → m < length s → IsSlot p (slot_at s m)
told_slot p s m told l = All-get_or (IsSlot p) s m no_slot l told.slots

-- a slot without a meet has nothing given
nothing : (n k : ℕ) → get_or (replicate n (let o : Option ResourceId = None in o)) k None ≡ None
nothing n k = elim (cases_lt k n) [
  | inl l ↦ get_or-replicate n k None None l
  | inr g ↦ let many = length-replicate n (let o : Option ResourceId = None in o) in
      get_or_past (replicate n None) k None (omega (arith, many, g))
]

pub none_given : (p : Parts) (s : List Slot) (m k : ℕ) → AreTold p s → is_live (slot_at s m) ≡ false
    → given_at (slot_at s m) k ≡ None
none_given p s m k told h = elim (cases_lt m (length s)) [
  | inl l ↦ ap (λ xs. get_or xs k None) ((told_slot p s m told l).empty (no_value (slot_at s m).span h))
      ∙ nothing (length (slot_at s m).given) k
  | inr g ↦ ap (λ (x : Slot). given_at x k) (get_or_past s m no_slot g)
]

-- a live meet lasts at least one time
pub live_long : (p : Parts) (s : List Slot) (m : ℕ) → AreTold p s → is_live (slot_at s m) ≡ true
    → 1 ≤ length_of (slot_at s m)
live_long p s m told h = by_span (slot_at s m).span h (told_slot p s m told (live_there s m h)).duration
  where
    by_span : (o : Option Span) → is_some o ≡ true → IfSome o (λ (y : Span). 1 ≤ y.duration)
        → 1 ≤ option_map_or (λ (y : Span). y.duration) o 0
    by_span None g l = absurd (true-false (sym g))
    by_span (Some y) g l = l
