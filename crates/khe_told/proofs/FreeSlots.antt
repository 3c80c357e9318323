-- The told state without meets.
use Rattle.std.proofs.Common.{ℕ, ◌≡◌, ◌≤◌, ◌<◌, ◌+◌, ◌∙◌, zero, suc, cond, Bool, true, false, Option, Some, None, List}
use Rattle.std.proofs.Common.{[], ◌∷◌, ◌++◌, map, replicate, length, get_or, slice_get, refl, sym, ap, subst, arith}
use Rattle.std.proofs.Common.{IfSome}
use Rattle.std.specs.Prelude.{◌==◌}
use Rattle.std.specs.Option.{option_map_or}
use Rattle.std.specs.List.{range_with_len}
use Rattle.std.proofs.lemmas.List.{length-replicate}
use Rattle.std.proofs.lemmas.List.Sums.{sum_by-cons}
use Rattle.std.proofs.lemmas.Option.{same_Some, none-some}
use Rattle.khe_base.specs.declared.numbers.ResourceId.{ResourceId}
use Rattle.khe_instance.specs.declared.parts.EventInfo.{EventInfo}
use Rattle.khe_instance.specs.declared.parts.Parts.{Parts}
use Rattle.khe_told.specs.Fits.{AreTold, IsSlot}
use Rattle.khe_told.specs.Slots.{no_meets, slots_from, slots_of_event, empty_slot, emptied, slot_at, held, held_by}
use Rattle.khe_told.specs.Slots.{length_of}
use Rattle.khe_told.specs.declared.slots.Slot.{Slot}
use Rattle.khe_told.specs.declared.slots.Span.{Span}

-- a slot with nothing in it
pub record IsFree (x : Slot) : Type 0 where
  pub span : x.span ≡ None
  pub given : x.given ≡ replicate (length x.given) None

abbrev pub AreFree : List Slot → Type 0
AreFree [] = Unit {0}
AreFree (x ∷ s) = IsFree x × AreFree s

free_both : (s t : List Slot) → AreFree s → AreFree t → AreFree (s ++ t)
free_both [] t a b = b
free_both (x ∷ s) t a b = (a.0, free_both s t a.1 b)

free_event : (e : ℕ) (event : EventInfo) (ms : List ℕ) → AreFree (map (λ m. empty_slot m e event) ms)
free_event e event [] = tt
free_event e event (m ∷ ms) = (
  record {
    span = refl;
    given =
        ap (λ n. replicate n None) (sym (length-replicate (length event.places) None));
  },
  free_event e event ms,
)

pub free_from : (e : ℕ) (events : List EventInfo) → AreFree (slots_from e events)
free_from e [] = tt
free_from e (event ∷ events) = free_both (slots_of_event e event) (slots_from (e + 1) events)
    (free_event e event (range_with_len event.first_meet event.duration)) (free_from (e + 1) events)

free_emptied : (s : List Slot) → AreFree s → map emptied s ≡ s
free_emptied [] h = refl
free_emptied (x ∷ s) h = (λ j. record x { span = sym h.0.span j; given = sym h.0.given j } ∷ free_emptied s h.1 j)

free_slots : (p : Parts) (s : List Slot) → AreFree s → (k : ℕ) (d : Slot) → k < length s → IsSlot p (get_or s k d)
free_slots p [] h k d l = absurd (omega (arith, l))
free_slots p (x ∷ s) h zero d l = record {
  duration = subst (λ o. IfSome o (λ (y : Span). 1 ≤ y.duration)) (sym h.0.span) tt;
  ends = subst (λ o. IfSome o (λ (y : Span). IfSome y.start (λ t. t.0 + y.duration ≤ length p.times))) (sym h.0.span)
      tt;
  given = λ e k place r a b c. absurd (nothing (length x.given) k r
      (ap (λ (g : List (Option ResourceId)). slice_get g k) (sym h.0.given) ∙ c));
  empty = λ e. h.0.given;
}
  where
    nothing : (n k : ℕ) (r : ResourceId) → slice_get (replicate n None) k ≡ Some (Some r) → ⊥
    nothing zero k r e = none-some (Some r) e
    nothing (suc n) zero r e = none-some r (same_Some None (Some r) e)
    nothing (suc n) (suc k) r e = nothing n k r e
free_slots p (x ∷ s) h (suc k) d l = free_slots p s h.1 k d (omega (arith, l))

free_held : (e : ℕ) (s : List Slot) → AreFree s → held e s ≡ 0
free_held e [] h = refl
free_held e (x ∷ s) h = sum_by-cons (held_by e) x s ∙ (λ i. one x.span h.0.span i + free_held e s h.1 i)
  where
    none : (b : Bool) → cond {A = ℕ} b 0 0 ≡ 0
    none true = refl
    none false = refl

    one : (o : Option Span) → o ≡ None → cond (x.event.0 == e) (option_map_or (λ (y : Span). y.duration) o 0) 0 ≡ 0
    one o n = ap (λ q. cond (x.event.0 == e) (option_map_or (λ (y : Span). y.duration) q 0) 0) n ∙ none (x.event.0 == e)

pub told_opened : (p : Parts) → AreTold p (no_meets p)
told_opened p = record {
  whose = free_emptied (no_meets p) (free_from 0 p.events);
  slots = λ k d l. free_slots p (no_meets p) (free_from 0 p.events) k d l;
  durations = λ e event g. (let z = free_held e (no_meets p) (free_from 0 p.events) in omega (arith, z));
}

free_length : (s : List Slot) (m : ℕ) → AreFree s → length_of (slot_at s m) ≡ 0
free_length [] m h = refl
free_length (x ∷ s) zero h = ap (λ (o : Option Span). option_map_or (λ (y : Span). y.duration) o 0) h.0.span
free_length (x ∷ s) (suc m) h = free_length s m h.1

-- nothing is held
pub none_held : (e : ℕ) (p : Parts) → held e (no_meets p) ≡ 0
none_held e p = free_held e (no_meets p) (free_from 0 p.events)

pub none_long : (p : Parts) (m : ℕ) → length_of (slot_at (no_meets p) m) ≡ 0
none_long p m = free_length (no_meets p) m (free_from 0 p.events)
