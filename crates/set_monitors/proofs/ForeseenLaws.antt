-- Effects that leave what a gauge keeps, or what is read from it.
use Rattle.std.proofs.Common.{ℕ, ◌≡◌, inl, inr, Some, None, List, [], ◌∷◌, subst}
use Rattle.khe_instance.specs.declared.parts.Parts.{Parts}
use Rattle.khe_instance.specs.declared.points.Monitor.{Monitor}
use Rattle.khe_told.specs.Agreement.{deviation_in}
use Rattle.khe_told.specs.Effects.{AreTurns, effects_of, turned_all}
use Rattle.khe_told.specs.Fits.{AreTold}
use Rattle.khe_told.specs.Turns.{IsTurn, SlotTurn, turned}
use Rattle.khe_told.specs.declared.slots.Slot.{Slot}
use Rattle.event_monitors.specs.Effects.{IsUncut}
use Rattle.set_monitors.specs.Foreseeing.{AllKeep, AreCutOrKeep}

-- the state after turns is told
pub told_after : (p : Parts) (s : List Slot) (ts : List SlotTurn) → AreTurns p s ts → AreTold p (turned_all s ts)
told_after p s [] turns = turns
told_after p s (t ∷ ts) turns = told_after p (turned s t) ts turns.1

-- and the one before them
pub told_first : (p : Parts) (s : List Slot) (ts : List SlotTurn) → AreTurns p s ts → AreTold p s
told_first p s [] turns = turns
told_first p s (t ∷ ts) turns = turns.0.told

-- one or two turns that leave the same
pub one_keeps : (kept : SlotTurn → Type 0) (a : SlotTurn) (ts : List SlotTurn) → effects_of a None ≡ ts → kept a
    → AllKeep kept ts
one_keeps kept a ts is h = subst (AllKeep kept) is (h, tt)

pub two_keep : (kept : SlotTurn → Type 0) (a b : SlotTurn) (ts : List SlotTurn) → effects_of a (Some b) ≡ ts → kept a
    → kept b → AllKeep kept ts
two_keep kept a b ts is h k = subst (AllKeep kept) is (h, (k, tt))

module _ {G : Type 0} (keeps : G → Parts → Monitor → List Slot → Type 0) (value : G → Parts → Monitor → ℕ)
    (exact : (g : G) (p : Parts) (m : Monitor) (s : List Slot) → keeps g p m s → deviation_in p s m ≡ value g p m)
    (kept : Parts → Monitor → SlotTurn → Type 0)
    (deaf : (g : G) (p : Parts) (m : Monitor) (s : List Slot) (t : SlotTurn) → kept p m t → IsTurn p s t → keeps g p m s
    → keeps g p m (turned s t)) where
  all_kept : (g : G) (p : Parts) (m : Monitor) (s : List Slot) (ts : List SlotTurn) → AllKeep (kept p m) ts
      → AreTurns p s ts → keeps g p m s → keeps g p m (turned_all s ts)
  all_kept g p m s [] h turns is = is
  all_kept g p m s (t ∷ ts) h turns is = all_kept g p m (turned s t) ts h.1 turns.1 (deaf g p m s t h.0 turns.0 is)

  -- what is read is the deviation after the effects
  pub foreseen_value : (g : G) (p : Parts) (m : Monitor) (s : List Slot) (ts : List SlotTurn) → IsUncut keeps value g
      → AreCutOrKeep (kept p m) ts → AreTurns p s ts → keeps g p m s → deviation_in p (turned_all s ts) m ≡ value g p m
  foreseen_value g p m s ts uncut (inr h) turns is = exact g p m (turned_all s ts) (all_kept g p m s ts h turns is)
  foreseen_value g p m s [] uncut (inl h) turns is = absurd h
  foreseen_value g p m s (a ∷ []) uncut (inl h) turns is = absurd h
  foreseen_value g p m s (a ∷ b ∷ []) uncut (inl h) turns is = uncut p m s a b h turns is
  foreseen_value g p m s (a ∷ b ∷ c ∷ ts) uncut (inl h) turns is = absurd h
