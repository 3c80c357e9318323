-- The event of a live meet, and its places.
use Rattle.std.proofs.Common.{ℕ, ◌≡◌, ◌<◌, ◌∙◌, true, Option, Some, None, List, length, slice_get, refl, sym, ap, arith}
use Rattle.std.proofs.Common.{inl, inr}
use Rattle.std.specs.Prelude.{◌&&◌, nat_lt}
use Rattle.std.proofs.lemmas.Bool.{cases_lt, lt-ltb}
use Rattle.std.proofs.lemmas.List.{get_or_past}
use Rattle.std.proofs.lemmas.Option.{same_Some, slice_get_within}
use Rattle.khe_base.specs.declared.numbers.EventId.{EventId}
use Rattle.khe_instance.specs.declared.parts.EventInfo.{EventInfo}
use Rattle.khe_instance.specs.declared.parts.Parts.{Parts}
use Rattle.khe_instance.specs.declared.states.Meet.{Meet}
use Rattle.khe_solution.proofs.Owners.{owner}
use Rattle.khe_solution.specs.Reading.{has_place}
use Rattle.khe_told.specs.Fits.{AreTold}
use Rattle.khe_told.specs.Lists.{meet_in}
use Rattle.khe_told.specs.Slots.{is_live, no_slot, slot_at}
use Rattle.khe_told.specs.declared.slots.Slot.{Slot}
use Rattle.khe_told.specs.declared.slots.Span.{Span}

-- a slot with a live meet is of the meet's event
record IsOfEvent (x : Slot) (m : Meet) : Type 0 where
  live : is_live x ≡ true
  event : m.event ≡ x.event

of_event : (x : Slot) (m : Meet) → meet_in x ≡ Some m → IsOfEvent x m
of_event x m e = by x.span e
  where
    by : (o : Option Span) → meet_in (record x { span = o }) ≡ Some m → IsOfEvent (record x { span = o }) m
    by None h = absurd (let g : ⊥ = cc in g)
    by (Some y) h = record { live = refl; event = sym (ap (λ (z : Meet). z.event) (same_Some _ _ h)) }

there : (s : List Slot) (k : ℕ) (m : Meet) → meet_in (slot_at s k) ≡ Some m → k < length s
there s k m e = elim (cases_lt k (length s)) [
  | inl l ↦ l
  | inr g ↦
      let past = get_or_past s k no_slot g in
      let none : meet_in no_slot ≡ Some m = sym (ap meet_in past) ∙ e in
      absurd (let g : ⊥ = cc in g)
]

pub event_known : (p : Parts) (s : List Slot) (k : ℕ) (m : Meet) → AreTold p s → meet_in (slot_at s k) ≡ Some m
    → m.event.0 < length p.events
event_known p s k m told e =
    let o = owner p s k told (there s k m e) in
    let within = slice_get_within p.events (slot_at s k).event.0 o.event o.there in
    let same = ap (λ (z : EventId). z.0) (of_event (slot_at s k) m e).event in
    omega (arith, within, same)

pub place_known : (p : Parts) (s : List Slot) (k : ℕ) (m : Meet) (event : EventInfo) (place : ℕ) → AreTold p s
    → meet_in (slot_at s k) ≡ Some m → slice_get p.events m.event.0 ≡ Some event
    → place < length event.places → has_place (slot_at s k) place ≡ true
place_known p s k m event place told e at l =
    let o = owner p s k told (there s k m e) in
    let is = of_event (slot_at s k) m e in
    let same : event ≡ o.event = same_Some event o.event
    (sym at ∙ ap (λ (z : EventId). slice_get p.events z.0) is.event ∙ o.there) in
    let places : length event.places ≡ length (slot_at s k).given =
    ap (λ (z : EventInfo). length z.places) same ∙ o.places in
    let within : nat_lt place (length (slot_at s k).given) ≡ true =
    lt-ltb place (length (slot_at s k).given) (omega (arith, places, l)) in
    ap (λ b. b && nat_lt place (length (slot_at s k).given)) is.live ∙ within
