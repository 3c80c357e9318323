-- A gauge of one of two sorts: what it keeps and what is read from it.
use Rattle.std.proofs.Common.{ℕ, ◌≡◌, ◌<◌, false, List, length}
use Rattle.std.specs.Prelude.{slice_set}
use Rattle.khe_instance.specs.declared.parts.Parts.{Parts}
use Rattle.khe_instance.specs.declared.points.Monitor.{Monitor}
use Rattle.khe_told.specs.Agreement.{deviation_in}
use Rattle.khe_told.specs.Slots.{emptied, slot_at}
use Rattle.khe_told.specs.Turns.{IsTurn, SlotTurn, turned}
use Rattle.khe_told.specs.declared.slots.Slot.{Slot}
use Rattle.event_monitors.specs.Posts.{names}
use Rattle.event_monitors.specs.declared.one_of.OneOf.{OneOf}
use Rattle.event_monitors.specs.declared.one_of.OneOf.TheVariants.{First, Second}

module _ {A B : Type 0} (keeps_a : A → Parts → Monitor → List Slot → Type 0)
    (keeps_b : B → Parts → Monitor → List Slot → Type 0) where
  -- it keeps what its sort keeps
  abbrev pub keeps_one : OneOf A B → Parts → Monitor → List Slot → Type 0
  keeps_one (First g) p m s = keeps_a g p m s
  keeps_one (Second g) p m s = keeps_b g p m s

module _ {A B : Type 0} (value_a : A → Parts → Monitor → ℕ) (value_b : B → Parts → Monitor → ℕ) where
  -- and is read as its sort is read
  abbrev pub value_one : OneOf A B → Parts → Monitor → ℕ
  value_one (First g) p m = value_a g p m
  value_one (Second g) p m = value_b g p m

module _ {A B : Type 0} (same_a : A → Parts → Monitor → SlotTurn → Type 0)
    (same_b : B → Parts → Monitor → SlotTurn → Type 0) where
  -- and is left by what leaves its sort
  abbrev pub unaffected_in : OneOf A B → Parts → Monitor → SlotTurn → Type 0
  unaffected_in (First g) p m t = same_a g p m t
  unaffected_in (Second g) p m t = same_b g p m t

module _ {A B : Type 0} (keeps_a : A → Parts → Monitor → List Slot → Type 0)
    (keeps_b : B → Parts → Monitor → List Slot → Type 0) where
  pub unaffected_one : (same_a : A → Parts → Monitor → SlotTurn → Type 0)
      (same_b : B → Parts → Monitor → SlotTurn → Type 0)
      → ((g : A) (p : Parts) (m : Monitor) (s : List Slot) (t : SlotTurn) → same_a g p m t → IsTurn p s t
      → keeps_a g p m s → keeps_a g p m (turned s t))
      → ((g : B) (p : Parts) (m : Monitor) (s : List Slot) (t : SlotTurn) → same_b g p m t → IsTurn p s t
      → keeps_b g p m s → keeps_b g p m (turned s t))
      → (g : OneOf A B) (p : Parts) (m : Monitor) (s : List Slot) (t : SlotTurn) → unaffected_in same_a same_b g p m t
      → IsTurn p s t → keeps_one keeps_a keeps_b g p m s → keeps_one keeps_a keeps_b g p m (turned s t)
  unaffected_one same_a same_b a b (First g) p m s t h turns kept = a g p m s t h turns kept
  unaffected_one same_a same_b a b (Second g) p m s t h turns kept = b g p m s t h turns kept

  pub exact_one : (value_a : A → Parts → Monitor → ℕ) (value_b : B → Parts → Monitor → ℕ)
      → ((g : A) (p : Parts) (m : Monitor) (s : List Slot) → keeps_a g p m s → deviation_in p s m ≡ value_a g p m)
      → ((g : B) (p : Parts) (m : Monitor) (s : List Slot) → keeps_b g p m s → deviation_in p s m ≡ value_b g p m)
      → (g : OneOf A B) (p : Parts) (m : Monitor) (s : List Slot) → keeps_one keeps_a keeps_b g p m s
      → deviation_in p s m ≡ value_one value_a value_b g p m
  exact_one value_a value_b a b (First g) p m s kept = a g p m s kept
  exact_one value_a value_b a b (Second g) p m s kept = b g p m s kept

  pub deaf_one : (unheard_a unheard_b : SlotTurn → Type 0)
      → ((g : A) (p : Parts) (m : Monitor) (s : List Slot) (t : SlotTurn) → unheard_a t → IsTurn p s t
      → keeps_a g p m s → keeps_a g p m (turned s t))
      → ((g : B) (p : Parts) (m : Monitor) (s : List Slot) (t : SlotTurn) → unheard_b t → IsTurn p s t
      → keeps_b g p m s → keeps_b g p m (turned s t))
      → (g : OneOf A B) (p : Parts) (m : Monitor) (s : List Slot) (t : SlotTurn) → unheard_a t × unheard_b t
      → IsTurn p s t → keeps_one keeps_a keeps_b g p m s → keeps_one keeps_a keeps_b g p m (turned s t)
  deaf_one unheard_a unheard_b a b (First g) p m s t h turns kept = a g p m s t h.0 turns kept
  deaf_one unheard_a unheard_b a b (Second g) p m s t h turns kept = b g p m s t h.1 turns kept

  pub elsewhere_one : ((g : A) (p : Parts) (m : Monitor) (s : List Slot) (k : ℕ) (x : Slot) → k < length s
      → emptied x ≡ emptied (slot_at s k) → names p (slot_at s k).event.0 m ≡ false → keeps_a g p m s
      → keeps_a g p m (slice_set s k x))
      → ((g : B) (p : Parts) (m : Monitor) (s : List Slot) (k : ℕ) (x : Slot) → k < length s
      → emptied x ≡ emptied (slot_at s k) → names p (slot_at s k).event.0 m ≡ false → keeps_b g p m s
      → keeps_b g p m (slice_set s k x))
      → (g : OneOf A B) (p : Parts) (m : Monitor) (s : List Slot) (k : ℕ) (x : Slot) → k < length s
      → emptied x ≡ emptied (slot_at s k) → names p (slot_at s k).event.0 m ≡ false
      → keeps_one keeps_a keeps_b g p m s → keeps_one keeps_a keeps_b g p m (slice_set s k x)
  elsewhere_one a b (First g) p m s k x l same named kept = a g p m s k x l same named kept
  elsewhere_one a b (Second g) p m s k x l same named kept = b g p m s k x l same named kept
