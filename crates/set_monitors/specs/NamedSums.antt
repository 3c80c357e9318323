-- Sums over the slots of the events that a monitor names.
use Rattle.std.proofs.Common.{ℕ, ◌≡◌, ◌<◌, ◌+◌, ◌∙◌, Bool, true, false, cond, List, [], ◌∷◌, map, set, length, refl}
use Rattle.std.proofs.Common.{sym}
use Rattle.std.proofs.Common.{ap, arith, sum_by}
use Rattle.std.specs.List.{range_with_len}
use Rattle.std.proofs.lemmas.List.Sums.{sum_by-append, sum_by-cons, sum_by-set}
use Rattle.khe_instance.specs.declared.parts.EventInfo.{EventInfo}
use Rattle.khe_instance.specs.declared.parts.Parts.{Parts}
use Rattle.khe_instance.specs.declared.points.Monitor.{Monitor}
use Rattle.khe_told.specs.Slots.{emptied, empty_slot, no_meets, no_slot, slot_at, slots_from, slots_of_event}
use Rattle.khe_told.specs.Turns.{IsTurn, SlotTurn, turned}
use Rattle.khe_told.specs.declared.slots.Slot.{Slot}
use Rattle.event_monitors.specs.Posts.{names}

-- what a slot counts for: nothing where it is another event's
abbrev pub named_part : Parts → Monitor → (Slot → ℕ) → Slot → ℕ
named_part p m f x = cond (names p x.event.0 m) (f x) 0

abbrev pub named_sum : Parts → Monitor → (Slot → ℕ) → List Slot → ℕ
named_sum p m f s = sum_by (named_part p m f) s

module _ (p : Parts) (m : Monitor) (f : Slot → ℕ) where
  -- a turn of another event's slot leaves the sum
  pub sum_elsewhere : (s : List Slot) (k : ℕ) (x : Slot) → k < length s → emptied x ≡ emptied (slot_at s k)
      → names p (slot_at s k).event.0 m ≡ false
      → named_sum p m f (set s k x) ≡ named_sum p m f s
  sum_elsewhere s k x l same named =
      let a = sum_by-set (named_part p m f) s k x no_slot l in
      let e : x.event.0 ≡ (slot_at s k).event.0 = ap (λ (y : Slot). y.event.0) same in
      let old : named_part p m f (slot_at s k) ≡ 0 = ap (λ b. cond b (f (slot_at s k)) 0) named in
      let new : named_part p m f x ≡ 0 = ap (λ b. cond b (f x) 0) (ap (λ n. names p n m) e ∙ named) in
      omega (arith, a, old, new)

  -- a slot of one of its events in place of another of the event changes the sum by their parts
  pub sum_turned : (s : List Slot) (t : SlotTurn) (x : Slot) → IsTurn p s t → emptied x ≡ emptied t.before
      → names p t.before.event.0 m ≡ true
      → named_sum p m f (set s t.before.meet.0 x) + f t.before ≡ named_sum p m f s + f x
  sum_turned s t x turns same named =
      let a = sum_by-set (named_part p m f) s t.before.meet.0 x no_slot turns.there in
      let old : named_part p m f (slot_at s t.before.meet.0) ≡ f t.before = ap (named_part p m f) turns.slot
      ∙ ap (λ b. cond b (f t.before) 0) named in
      let e : x.event.0 ≡ t.before.event.0 = ap (λ (y : Slot). y.event.0) same in
      let new : named_part p m f x ≡ f x = ap (λ b. cond b (f x) 0) (ap (λ n. names p n m) e ∙ named) in
      omega (arith, a, old, new)

  -- a turn that leaves what its slot counts for leaves the sum
  pub turn_kept : (s : List Slot) (t : SlotTurn) → IsTurn p s t → f t.after ≡ f t.before
      → named_sum p m f (turned s t) ≡ named_sum p m f s
  turn_kept s t turns same =
      let a = sum_by-set (named_part p m f) s t.before.meet.0 t.after no_slot turns.there in
      let e : t.after.event.0 ≡ t.before.event.0 = ap (λ (y : Slot). y.event.0) turns.same in
      let part : named_part p m f t.after ≡ named_part p m f (slot_at s t.before.meet.0) =
      (λ j. cond (names p (e j) m) (same j) 0) ∙ ap (named_part p m f) (sym turns.slot) in
      omega (arith, a, part)

  -- where free slots count for nothing, there is none without meets
  pub sum_of_none : ((k e : ℕ) (event : EventInfo) → f (empty_slot k e event) ≡ 0) → named_sum p m f (no_meets p) ≡ 0
  sum_of_none free = all 0 p.events
    where
      of_event : (e : ℕ) (event : EventInfo) (ks : List ℕ) → named_sum p m f (map (λ k. empty_slot k e event) ks) ≡ 0
      of_event e event [] = refl
      of_event e event (k ∷ ks) =
          let a = sum_by-cons (named_part p m f) (empty_slot k e event) (map (λ k. empty_slot k e event) ks) in
          let b = of_event e event ks in
          let c : named_part p m f (empty_slot k e event) ≡ 0 =
          by (names p e m) (f (empty_slot k e event)) (free k e event) in
          omega (arith, a, b, c)
        where
          by : (b : Bool) (n : ℕ) → n ≡ 0 → cond b n 0 ≡ 0
          by true n h = h
          by false n h = refl

      all : (e : ℕ) (events : List EventInfo) → named_sum p m f (slots_from e events) ≡ 0
      all e [] = refl
      all e (event ∷ events) =
          let a = sum_by-append (named_part p m f) (slots_of_event e event) (slots_from (e + 1) events) in
          let b = of_event e event (range_with_len event.first_meet event.duration) in
          let c = all (e + 1) events in
          omega (arith, a, b, c)
