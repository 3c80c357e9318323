-- The rows of an instance without meets, slot by slot.
use Rattle.std.proofs.Common.{ℕ, ◌≡◌, ◌+◌, ◌-◌, ◌*◌, ◌<◌, ◌≤◌, zero, suc, Some, None, List, [], ◌∷◌, ◌++◌, length, map}
use Rattle.std.proofs.Common.{drop, take, get_or, replicate, slice_get, refl, sym, ap, subst, ◌∙◌, arith}
use Rattle.std.specs.List.{range_with_len, sum_by}
use Rattle.std.specs.Option.{option_map_or}
use Rattle.std.proofs.lemmas.List.{drop-replicate, get_or-map, length-append, length-map, map-append, take-replicate}
use Rattle.std.proofs.lemmas.List.{take_all, take_more}
use Rattle.std.proofs.lemmas.List.Sums.{sum_by_more, sum_by_more_le}
use Rattle.khe_instance.proofs.SlotsLemmas.{length-slots_from}
use Rattle.khe_instance.proofs.TasksLemmas.{length-all_tasks, length-tasks_from}
use Rattle.khe_instance.specs.Lookups.{places_at}
use Rattle.khe_instance.specs.Slots.{HasSlot, first_task, slots_from as events_from}
use Rattle.khe_instance.specs.WellMade.{AreFirstMeets}
use Rattle.khe_instance.specs.declared.parts.EventInfo.{EventInfo}
use Rattle.khe_instance.specs.declared.parts.Parts.{Parts}
use Rattle.khe_told.proofs.FrameLaws.{standing}
use Rattle.khe_told.proofs.StoredLaws.{in_order}
use Rattle.khe_told.specs.Slots.{empty_slot, no_meets, no_slot, slot_at, slots_from, slots_of_event}
use Rattle.khe_told.specs.Stored.{AreInOrder, free_slot, free_slots, slots_in}
use Rattle.khe_told.specs.declared.rows.Row.{Row}
use Rattle.khe_told.specs.declared.slots.Slot.{Slot}

-- one more row
free_more : (m : ℕ) (rs : List Row) (r : Row)
    → free_slots m (rs ++ r ∷ []) ≡ free_slots m rs ++ free_slot (m + length rs) r ∷ []
free_more m [] r = let e : m ≡ m + 0 = omega arith in ap (λ n. free_slot n r ∷ []) e
free_more m (x ∷ rs) r =
    let e : m + 1 + length rs ≡ m + suc (length rs) = omega arith in
    ap (λ s. free_slot m x ∷ s) (free_more (m + 1) rs r ∙ ap (λ n. free_slots (m + 1) rs ++ free_slot n r ∷ []) e)

order_more : (next end : ℕ) (rs : List Row) (r : Row) → AreInOrder next end rs → r.first_task ≡ end
    → AreInOrder next (end + r.places) (rs ++ r ∷ [])
order_more next end [] r h first = (first ∙ sym h, ap (λ n. n + r.places) h)
order_more next end (x ∷ rs) r h first = (h.0, order_more (next + x.places) end rs r h.1 first)

-- the event of each slot
own_events : (e : ℕ) (event : EventInfo) (m n : ℕ)
    → map (λ (x : Slot). x.event.0) (map (λ k. empty_slot k e event) (range_with_len m n)) ≡ replicate n e
own_events e event m zero = refl
own_events e event m (suc n) = ap (λ es. e ∷ es) (own_events e event (m + 1) n)

pub events_of : (e : ℕ) (events : List EventInfo)
    → map (λ (x : Slot). x.event.0) (slots_from e events) ≡ events_from e events
events_of e [] = refl
events_of e (x ∷ events) =
    map-append (λ (x : Slot). x.event.0) (slots_of_event e x) (slots_from (e + 1) events)
    ∙ (λ i. own_events e x x.first_meet x.duration i ++ events_of (e + 1) events i)

-- there are as many slots as the events last together
pub slots_amount : (e : ℕ) (events : List EventInfo)
    → length (slots_from e events) ≡ sum_by (λ (x : EventInfo). x.duration) events
slots_amount e events = sym (length-map (slots_from e events) (λ (x : Slot). x.event.0))
    ∙ ap length (events_of e events) ∙ length-slots_from e events

-- the rows of n slots
pub record IsOpened (p : Parts) (rs : List Row) (n : ℕ) : Type 0 where
  pub slots : free_slots 0 rs ≡ take n (no_meets p)
  pub order : AreInOrder 0 (first_task p.events n) rs
  pub many : length rs ≡ n

pub opened_start : (p : Parts) → IsOpened p [] 0
opened_start p = record { slots = refl; order = refl; many = refl }

-- the next slot and its event
record IsNext (p : Parts) (n e : ℕ) (event : EventInfo) : Type 0 where
  pub below : n < length (no_meets p)
  pub slot : slot_at (no_meets p) n ≡ empty_slot n e event
  pub owner : get_or (events_from 0 p.events) n 0 ≡ e
  pub within : n < length (events_from 0 p.events)
  pub places : places_at p.events e ≡ length event.places

next_slot : (p : Parts) (n e : ℕ) → AreFirstMeets 0 p.events → (h : HasSlot p.events e n) → IsNext p n e h.0
next_slot p n e first h =
    let r = standing 0 0 n e h.0 p.events first h.1 h.2 h.3 in
    let back : n ≡ n - 0 = omega arith in
    let z : 0 + e ≡ e = omega arith in
    let below : n < length (no_meets p) = let w = r.within in omega (arith, w) in
    let slot : slot_at (no_meets p) n ≡ empty_slot n e h.0 =
    ap (slot_at (no_meets p)) back ∙ r.value ∙ ap (λ j. empty_slot n j h.0) z in
    record {
      below = below;
      slot = slot;
      owner = ap (λ es. get_or es n 0) (sym (events_of 0 p.events))
          ∙ get_or-map (λ (x : Slot). x.event.0) (no_meets p) n no_slot 0 below ∙ ap (λ (x : Slot). x.event.0) slot;
      within = let a = slots_amount 0 p.events in let b = length-slots_from 0 p.events in omega (arith, a, b, below);
      places = ap (λ o. option_map_or (λ (x : EventInfo). length x.places) o 0) h.1;
    }

-- its task slots are among all
pub few_places : (p : Parts) (n e : ℕ) (event : EventInfo) → AreFirstMeets 0 p.events → HasSlot p.events e n
    → slice_get p.events e ≡ Some event
    → length event.places ≤ sum_by (λ (x : EventInfo). x.duration * length x.places) p.events
few_places p n e event first h at =
    let r = next_slot p n e first h in
    let l = sum_by_more_le (places_at p.events) (events_from 0 p.events) n 0 r.within in
    let o = ap (places_at p.events) r.owner in
    let mine : places_at p.events e ≡ length event.places =
    ap (λ o. option_map_or (λ (x : EventInfo). length x.places) o 0) at in
    let all = all_places p.events in
    omega (arith, l, o, mine, all)
  where
    all_places : (events : List EventInfo) → sum_by (places_at events) (events_from 0 events)
        ≡ sum_by (λ (x : EventInfo). x.duration * length x.places) events
    all_places events = sym (length-tasks_from events 0 (events_from 0 events)) ∙ length-all_tasks events

pub opened_more : (p : Parts) (rs : List Row) (n e : ℕ) (event : EventInfo) (r : Row) → AreFirstMeets 0 p.events
    → IsOpened p rs n → HasSlot p.events e n → slice_get p.events e ≡ Some event
    → r ≡ record {
      event = record { 0 = e };
      first_task = first_task p.events n;
      places = length event.places;
      span =
          None;
    } → IsOpened p (rs ++ r ∷ []) (n + 1)
opened_more p rs n e event r first h has at is =
    let next = next_slot p n e first has in
    let places : places_at p.events e ≡ length event.places =
    ap (λ o. option_map_or (λ (x : EventInfo). length x.places) o 0) at in
    let same = sym next.places ∙ places in
    let mine : free_slot (0 + length rs) r ≡ get_or (no_meets p) n no_slot =
    let k : 0 + length rs ≡ n = let m = h.many in omega (arith, m) in
    (λ i. free_slot (k i) (is i)) ∙ (λ i. record {
      meet = record { 0 = n };
      event = record { 0 = e };
      span = None;
      given = replicate (sym same i) None;
    }) ∙ sym next.slot in
    let end : first_task p.events n + r.places ≡ first_task p.events (n + 1) =
    ap (λ (x : Row). first_task p.events n + x.places) is
    ∙ ap (λ k. first_task p.events n + k) (sym (ap (places_at p.events) next.owner ∙ places))
    ∙ sym (sum_by_more (places_at p.events) (events_from 0 p.events) n 0 next.within) in
    record {
      slots = free_more 0 rs r ∙ (λ i. h.slots i ++ mine i ∷ []) ∙ sym (take_more (no_meets p) n no_slot next.below);
      order = subst (λ k. AreInOrder 0 k (rs ++ r ∷ [])) end
          (order_more 0 (first_task p.events n) rs r h.order (ap (λ (x : Row). x.first_task) is));
      many = let l = length-append rs (r ∷ []) in let m = h.many in omega (arith, l, m);
    }

-- all rows
pub opened_slots : (p : Parts) (rs : List Row) (n : ℕ) → n ≡ sum_by (λ (x : EventInfo). x.duration) p.events
    → IsOpened p rs n → free_slots 0 rs ≡ no_meets p
opened_slots p rs n all h = let m = slots_amount 0 p.events in h.slots ∙ take_all n (no_meets p) (omega (arith, all, m))

pub opened_order : (p : Parts) (rs : List Row) (n : ℕ) → n ≡ sum_by (λ (x : EventInfo). x.duration) p.events
    → IsOpened p rs n
    → AreInOrder 0 (sum_by (λ (x : EventInfo). x.duration * length x.places) p.events) rs
opened_order p rs n all h =
    let m = length-slots_from 0 p.events in
    let total : first_task p.events n ≡ sum_by (λ (x : EventInfo). x.duration * length x.places) p.events =
    ap (sum_by (places_at p.events)) (take_all n (events_from 0 p.events) (omega (arith, all, m)))
    ∙ sym (length-tasks_from p.events 0 (events_from 0 p.events)) ∙ length-all_tasks p.events in
    subst (λ k. AreInOrder 0 k rs) total h.order

-- rows to whose task slots nothing is given
pub free_given : (m next end : ℕ) (rs : List Row) → AreInOrder next end rs
    → slots_in m rs (replicate end None) ≡ free_slots m rs
free_given m next end [] h = refl
free_given m next end (r ∷ rs) h =
    let l = in_order (next + r.places) end rs h.1 in
    let f = h.0 in
    let room : r.places ≤ end - r.first_task = omega (arith, l, f) in
    let none : take r.places (drop r.first_task (replicate end None)) ≡ replicate r.places None =
    ap (take r.places) (drop-replicate r.first_task end None)
    ∙ take-replicate r.places (end - r.first_task) None room in
    λ i. record (free_slot m r) { given = none i } ∷ free_given (m + 1) (next + r.places) end rs h.1 i
