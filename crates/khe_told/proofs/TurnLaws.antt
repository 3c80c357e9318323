-- A slot by its parts, and what is taken over of another state.
use Rattle.std.proofs.Common.{◌≡◌, ◌∙◌, ap, sym, Option, None, List, length}
use Rattle.std.proofs.lemmas.List.{length-replicate}
use Rattle.khe_base.specs.declared.numbers.EventId.{EventId}
use Rattle.khe_base.specs.declared.numbers.MeetId.{MeetId}
use Rattle.khe_base.specs.declared.numbers.ResourceId.{ResourceId}
use Rattle.khe_told.specs.Slots.{emptied, slot_at}
use Rattle.khe_told.specs.Turns.{turn_to}
use Rattle.khe_told.specs.declared.slots.Slot.{Slot}
use Rattle.khe_told.specs.declared.slots.Span.{Span}

pub meet_same : (x y : Slot) → emptied x ≡ emptied y → x.meet ≡ y.meet
meet_same x y h = ap (λ (z : Slot). z.meet) h

pub event_same : (x y : Slot) → emptied x ≡ emptied y → x.event ≡ y.event
event_same x y h = ap (λ (z : Slot). z.event) h

pub places_same : (x y : Slot) → emptied x ≡ emptied y → length x.given ≡ length y.given
places_same x y h =
    sym (length-replicate (length x.given) None) ∙ ap (λ (z : Slot). length z.given) h
    ∙ length-replicate (length y.given) None

-- a turn is made of the parts of both slots
pub turn_made : (s next : List Slot) (m : MeetId) (e : EventId) (before after : Option Span)
    (old new : List (Option ResourceId)) → (slot_at s m.0).meet.0 ≡ m.0 → (slot_at s m.0).event ≡ e
    → (slot_at s m.0).span ≡ before → after ≡ (slot_at next m.0).span → old ≡ (slot_at s m.0).given
    → new ≡ (slot_at next m.0).given → emptied (slot_at next m.0) ≡ emptied (slot_at s m.0)
    → record {
      before = record { meet = m; event = e; span = before; given = old };
      after = record { meet = m; event = e; span = after; given = new };
    } ≡ turn_to s next m.0
turn_made s next m e before after old new meet event span later given given_later same =
    let number : m ≡ (slot_at s m.0).meet = ap (λ n. record { 0 = n }) (sym meet) in
    let meets = number ∙ sym (meet_same (slot_at next m.0) (slot_at s m.0) same) in
    let events = sym event ∙ sym (event_same (slot_at next m.0) (slot_at s m.0) same) in
    λ i. record {
      before = record { meet = number i; event = sym event i; span = sym span i; given = given i };
      after = record { meet = meets i; event = events i; span = later i; given = given_later i };
    }

-- a slot with the meet of another of its event, and what its places are given, is that
pub slot_taken : (x y : Slot) → emptied y ≡ emptied x → record x { span = y.span; given = y.given } ≡ y
slot_taken x y same = λ i. record {
  meet = sym (meet_same y x same) i;
  event = sym (event_same y x same) i;
  span = y.span;
  given = y.given;
}
