-- The numbers of demands: no two demands of tasks have the same.
use Rattle.std.proofs.Common.{ℕ, zero, suc, ◌+◌, ◌<◌, ◌≤◌, ◌≡◌, inl, inr, Some, List, [], ◌∷◌, map, take, length}
use Rattle.std.proofs.Common.{get_or, slice_get, refl, sym, ap, ◌∙◌, arith}
use Rattle.std.specs.List.{sum_by}
use Rattle.std.proofs.lemmas.Bool.{cases_lt}
use Rattle.std.proofs.lemmas.List.{length-map}
use Rattle.std.proofs.lemmas.List.Sums.{sum_by-cons}
use Rattle.std.proofs.lemmas.Option.{same_Some, slice_get-get_or}
use Rattle.khe_instance.proofs.SlotsLemmas.{length-slots_from, slot-event}
use Rattle.khe_instance.proofs.TasksLemmas.{length-all_tasks, length-tasks_from}
use Rattle.khe_instance.specs.Lookups.{places_at}
use Rattle.khe_instance.specs.Slots.{HasSlot, first_task, slots_from}
use Rattle.khe_instance.specs.WellMade.{AreFirstMeets}
use Rattle.khe_instance.specs.declared.parts.EventInfo.{EventInfo}
use Rattle.khe_instance.specs.declared.parts.Parts.{Parts}
use Rattle.khe_told.proofs.FillingLaws.{IsSlotOf, slot_of}
use Rattle.khe_told.proofs.OpeningLaws.{slots_amount}
use Rattle.khe_told.specs.Slots.{emptied, no_meets, slot_at, length_of}
use Rattle.khe_told.specs.declared.slots.Slot.{Slot}
use Rattle.hall_report.proofs.UnitLaws.{unit_once, units_below}
use Rattle.hall_report.specs.Kept.{IsTask, number_of}
use Rattle.hall_report.specs.Units.{AreFirsts, AreUnits, IsOffset, tasks_of, unit_at}
use Rattle.hall_report.specs.declared.units.Units.{Units}

-- the sums before two places of a list
pub row_apart : {A : Type 0} (f : A → ℕ) (xs : List A) (u v : ℕ) (x : A) → slice_get xs u ≡ Some x → u < v
    → sum_by f (take u xs) + f x ≤ sum_by f (take v xs)
row_apart f [] u v x h l = absurd (let g : ⊥ = cc in g)
row_apart f (z ∷ xs) zero (suc v) x h l =
    let a = sum_by-cons f z (take v xs) in
    let b : f z ≡ f x = ap f (same_Some z x h) in
    let c : sum_by f (take 0 (z ∷ xs)) ≡ 0 = refl in
    omega (arith, a, b, c)
row_apart f (z ∷ xs) (suc u) (suc v) x h l =
    let a = sum_by-cons f z (take u xs) in
    let b = sum_by-cons f z (take v xs) in
    let c = row_apart f xs u v x h (omega (arith, l)) in
    omega (arith, a, b, c)
row_apart f (z ∷ xs) u zero x h l = absurd (omega (arith, l))

row_within : {A : Type 0} (f : A → ℕ) (xs : List A) (u : ℕ) (x : A) → slice_get xs u ≡ Some x
    → sum_by f (take u xs) + f x ≤ sum_by f xs
row_within f [] u x h = absurd (let g : ⊥ = cc in g)
row_within f (z ∷ xs) zero x h =
    let a = sum_by-cons f z xs in
    let b : f z ≡ f x = ap f (same_Some z x h) in
    let c : sum_by f (take 0 (z ∷ xs)) ≡ 0 = refl in
    omega (arith, a, b, c)
row_within f (z ∷ xs) (suc u) x h =
    let a = sum_by-cons f z (take u xs) in
    let b = sum_by-cons f z xs in
    let c = row_within f xs u x h in
    omega (arith, a, b, c)

-- the event of a unit
pub owner : (events : List EventInfo) (e u : ℕ) → AreFirstMeets 0 events → HasSlot events e u
    → slice_get (slots_from 0 events) u ≡ Some e
owner events e u first h =
    let l : u < length (slots_from 0 events) = let a = units_below events e u first h in let b =
    length-slots_from 0 events in omega (arith, a, b) in
    slice_get-get_or (slots_from 0 events) u 0 l ∙ ap Some
    (unit_once events (get_or (slots_from 0 events) u 0) e u first (slot-event u events first l) h)

-- what a unit and a place say together
pub numbers_apart : (events : List EventInfo) (a b u v k j : ℕ) → AreFirstMeets 0 events → HasSlot events a u
    → HasSlot events b v → k < places_at events a → j < places_at events b
    → first_task events u + k ≡ first_task events v + j → (u ≡ v) × (k ≡ j)
numbers_apart events a b u v k j first h g near far same =
    let x = owner events a u first h in
    let y = owner events b v first g in
    elim (cases_lt u v) [
      | inl less ↦ absurd (let r = row_apart (places_at events) (slots_from 0 events) u v a x less in
          omega (arith, r, near, same))
      | inr more ↦ elim (cases_lt v u) [
        | inl less ↦ absurd (let r = row_apart (places_at events) (slots_from 0 events) v u b y less in
            omega (arith, r, far, same))
        | inr less ↦
            let e : u ≡ v = omega (arith, more, less) in
            (e, (let f = ap (first_task events) e in omega (arith, f, same)))
      ]
    ]

pub task_total : (events : List EventInfo) → AreFirstMeets 0 events
    → sum_by (places_at events) (slots_from 0 events) ≡ tasks_of events
task_total events first = sym (length-tasks_from events 0 (slots_from 0 events)) ∙ length-all_tasks events

pub number_within : (events : List EventInfo) (a u k : ℕ) → AreFirstMeets 0 events → HasSlot events a u
    → k < places_at events a → first_task events u + k < tasks_of events
number_within events a u k first h near =
    let r = row_within (places_at events) (slots_from 0 events) u a (owner events a u first h) in
    let q = task_total events first in
    omega (arith, r, q, near)

-- a slot that has a meet is there
pub live_below : (s : List Slot) (m o : ℕ) → o < length_of (slot_at s m) → m < length s
live_below [] m o l = absurd (omega (arith, l))
live_below (x ∷ s) zero o l = omega arith
live_below (x ∷ s) (suc m) o l = let r = live_below s m o l in omega (arith, r)

-- the slot with a number
pub record IsSlotAt (p : Parts) (s : List Slot) (m : ℕ) : Type 0 where
  pub event : ℕ
  pub has : HasSlot p.events event m
  pub slot : IsSlotOf s event m (places_at p.events event)

pub slot_is : (p : Parts) (s : List Slot) (m : ℕ) → AreFirstMeets 0 p.events → map emptied s ≡ no_meets p → m < length s
    → IsSlotAt p s m
slot_is p s m first whose l =
    let many : length s ≡ length (slots_from 0 p.events) =
    sym (length-map s emptied) ∙ ap length whose ∙ slots_amount 0 p.events ∙ sym (length-slots_from 0 p.events) in
    let has = slot-event m p.events first (omega (arith, l, many)) in
    record {
      event = get_or (slots_from 0 p.events) m 0;
      has = has;
      slot =
          slot_of p s (get_or (slots_from 0 p.events) m 0) m first whose has;
    }

pub live_slot : (p : Parts) (s : List Slot) (m o : ℕ) → AreFirstMeets 0 p.events → map emptied s ≡ no_meets p
    → IsOffset s m o → IsSlotAt p s m
live_slot p s m o first whose l = slot_is p s m first whose (live_below s m o l)

-- a place of a task's slot is one of its event
pub task_place : (p : Parts) (s : List Slot) (m k o : ℕ) → AreFirstMeets 0 p.events → map emptied s ≡ no_meets p
    → IsTask s m k o → k < places_at p.events (slot_at s m).event.0
task_place p s m k o first whose is =
    let x = live_slot p s m o first whose is.1 in
    let a = x.slot.many in
    let b = ap (places_at p.events) x.slot.event in
    let c = is.0 in
    omega (arith, a, b, c)

module _ (p : Parts) (s : List Slot) (u : Units) (first : AreFirstMeets 0 p.events) (whose : map emptied s ≡ no_meets p)
    (are : AreUnits p.events s u.next.items u.held.items u.free.items) (firsts : AreFirsts p.events u.tasks.items)
  where
    unit_of : ℕ → ℕ → ℕ
    unit_of m o = unit_at u.next.items u.held.items m o

    pub number_is : (m k o : ℕ) → IsOffset s m o → number_of u m k o
        ≡ first_task p.events (unit_at u.next.items u.held.items m o) + k
    number_is m k o l =
        let below = units_below p.events (slot_at s m).event.0 (unit_at u.next.items u.held.items m o) first
        (are.holds m o l) in
        ap (λ n. n + k) (firsts.each (unit_at u.next.items u.held.items m o) below)

    pub number_below : (m k o : ℕ) → IsTask s m k o → number_of u m k o < tasks_of p.events
    number_below m k o is =
        let a = number_is m k o is.1 in
        let b = number_within p.events (slot_at s m).event.0 (unit_at u.next.items u.held.items m o) k first
        (are.holds m o is.1) (task_place p s m k o first whose is) in
        omega (arith, a, b)

    pub number_apart : (m k o n j i : ℕ) → IsTask s m k o → IsTask s n j i → number_of u m k o ≡ number_of u n j i
        → (m ≡ n) × (k ≡ j) × (o ≡ i)
    number_apart m k o n j i is at same =
        let r = numbers_apart p.events (slot_at s m).event.0 (slot_at s n).event.0
        (unit_at u.next.items u.held.items m o) (unit_at u.next.items u.held.items n i) k j first
        (are.holds m o is.1) (are.holds n i at.1) (task_place p s m k o first whose is)
        (task_place p s n j i first whose at) (sym (number_is m k o is.1) ∙ same ∙ number_is n j i at.1) in
        let q = are.apart m n o i is.1 at.1 r.0 in
        (q.0, r.1, q.1)
