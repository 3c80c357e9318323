-- Tasks that may be given any of some resources.
use Rattle.std.specs.Prelude.{◌≡◌, true, false, None, List, All, AllPairs}
use Rattle.khe_base.specs.declared.numbers.ResourceId.{ResourceId}
use Rattle.khe_base.specs.declared.numbers.TaskId.{TaskId}
use Rattle.khe_instance.specs.Lookups.{place_at}
use Rattle.khe_instance.specs.declared.parts.Parts.{Parts}
use Rattle.khe_solution.specs.Reading.{has_place, has_type, is_fixed_place, resource_at}
use Rattle.khe_told.specs.Slots.{slot_at}
use Rattle.khe_told.specs.declared.slots.Slot.{Slot}

-- two tasks are not the same
abbrev pub AreApart : TaskId → TaskId → Type 0
AreApart a b = b.meet.0 ≡ a.meet.0 → b.place ≡ a.place → ⊥

-- a task is there, its resource is not preassigned, and each of these resources has its type
pub record IsOpenFor (p : Parts) (rs : List ResourceId) (s : List Slot) (t : TaskId) : Type 0 where
  pub there : has_place (slot_at s t.meet.0) t.place ≡ true
  pub free : is_fixed_place p (slot_at s t.meet.0).event.0 t.place ≡ false
  pub typed : All (λ (r : ResourceId). has_type p r.0 (place_at p.events (slot_at s t.meet.0).event.0 t.place) ≡ true)
      rs

-- none of these tasks has a resource, and each may be given any, whatever the others are given
pub record AreReady (p : Parts) (rs : List ResourceId) (s : List Slot) (ts : List TaskId) : Type 0 where
  pub open_ : All (IsOpenFor p rs s) ts
  pub none : All (λ (t : TaskId). resource_at s t ≡ None) ts
  pub apart : AllPairs AreApart ts
