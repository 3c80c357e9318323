-- Where a meet slot stands.
use Rattle.std.proofs.Common.{ℕ, ◌≡◌, ◌+◌, ◌-◌, ◌<◌, ◌≤◌, inl, inr, Some, List, [], ◌∷◌, length, get_or, refl, sym, ap}
use Rattle.std.proofs.Common.{subst, ◌∙◌, arith, suc, slice_get, length-append, zero-add}
use Rattle.std.specs.Prelude.{replicate}
use Rattle.std.specs.List.{sum_by}
use Rattle.std.proofs.Math.Seq.{get_or-append_right}
use Rattle.std.proofs.lemmas.Bool.{cases_lt}
use Rattle.std.proofs.lemmas.List.{get_or_append_left, get_or-replicate, length-replicate}
use Rattle.std.proofs.lemmas.List.Sums.{sum_by-cons}
use Rattle.khe_instance.specs.Slots.{slots_from, HasSlot}
use Rattle.khe_instance.specs.WellMade.{AreFirstMeets}
use Rattle.khe_instance.specs.declared.parts.EventInfo.{EventInfo}

-- there are as many slots as the durations add to
pub length-slots_from : (e : ℕ) (events : List EventInfo)
    → length (slots_from e events) ≡ sum_by (λ x. x.duration) events
length-slots_from e [] = refl
length-slots_from e (x ∷ xs) =
    length-append (replicate x.duration e) (slots_from (e + 1) xs)
    ∙ (λ i. length-replicate x.duration e i + length-slots_from (e + 1) xs i)
    ∙ sym (sum_by-cons (λ y. y.duration) x xs)

-- the event at a slot, counted on from the first of these events
pub record StandsAt (e first slot : ℕ) (events : List EventInfo) : Type 0 where
  pub number : ℕ
  pub event : EventInfo
  pub value : get_or (slots_from e events) slot 0 ≡ e + number
  pub there : slice_get events number ≡ Some event
  pub from : event.first_meet ≤ first + slot
  pub to : first + slot < event.first_meet + event.duration

pub slot-stands : (e first slot : ℕ) (events : List EventInfo) → AreFirstMeets first events
    → slot < length (slots_from e events) → StandsAt e first slot events
slot-stands e first slot [] h l = absurd (omega arith)
slot-stands e first slot (x ∷ xs) h l =
    let own = replicate x.duration e in
    let later = slots_from (e + 1) xs in
    let many : length own ≡ x.duration = length-replicate x.duration e in
    elim (cases_lt slot x.duration) [
      | inl less ↦ record {
        number = 0;
        event = x;
        value = get_or_append_left own later 0 slot (omega (arith, many)) ∙ get_or-replicate x.duration slot e 0 less
            ∙ sym (let z : e + 0 ≡ e = omega arith in z);
        there = refl;
        from = omega (arith, h.0);
        to = omega (arith, h.0);
      }
      | inr more ↦
          let rest = slot-stands (e + 1) (first + x.duration) (slot - x.duration) xs h.1
          (omega (arith, length-append own later, many)) in
          record {
            number = suc rest.number;
            event = rest.event;
            value = get_or-append_right own later slot 0 (omega (arith, many))
                ∙ ap (λ n. get_or later (slot - n) 0) many ∙ rest.value
                ∙ (let z : e + 1 + rest.number ≡ e + suc rest.number = omega arith in z);
            there = rest.there;
            from = omega (arith, rest.from);
            to = omega (arith, rest.to);
          }
    ]

-- the event of a slot has it
pub slot-event : (slot : ℕ) (events : List EventInfo) → AreFirstMeets 0 events → slot < length (slots_from 0 events)
    → HasSlot events (get_or (slots_from 0 events) slot 0) slot
slot-event slot events h l =
    let s = slot-stands 0 0 slot events h l in
    let e : get_or (slots_from 0 events) slot 0 ≡ s.number = s.value ∙ zero-add s.number in
    subst (λ n. HasSlot events n slot) (sym e) (s.event, s.there, omega (arith, s.from), omega (arith, s.to))
