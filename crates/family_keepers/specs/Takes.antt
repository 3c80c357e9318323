-- A told state whose slots are copied one by one from a later state: each slot is that of one state or of the
-- other.
use Rattle.std.specs.Prelude.{ℕ, ◌≡◌, ◌⊎◌, Bool, true, List, [], ◌∷◌, Some}
use Rattle.khe_base.specs.declared.numbers.MeetId.{MeetId}
use Rattle.khe_instance.specs.declared.parts.Parts.{Parts}
use Rattle.khe_told.specs.Changes.{meet_of}
use Rattle.khe_told.specs.Fits.{AreTold}
use Rattle.khe_told.specs.Slots.{slot_at}
use Rattle.khe_told.specs.Turns.{Watches}
use Rattle.khe_told.specs.declared.changes.Change.{Change}
use Rattle.khe_told.specs.declared.slots.Slot.{Slot}
use Rattle.family_keepers.specs.declared.keeping.Taken.{Taken}

-- a change of the slot with this number is among them
abbrev pub Mentions : List Change → ℕ → Type 0
Mentions [] k = ⊥
Mentions (c ∷ cs) k = (meet_of c ≡ k) ⊎ Mentions cs k

-- a slot is that of one state or of the other
abbrev pub IsEither : List Slot → List Slot → ℕ → Slot → Type 0
IsEither s t k x = (x ≡ slot_at s k) ⊎ (x ≡ slot_at t k)

-- each slot is that of one state or of the other, and the state is told
pub record IsMix (p : Parts) (s t now : List Slot) : Type 0 where
  pub told : AreTold p now
  pub each : (k : ℕ) → IsEither s t k (slot_at now k)

-- who waits and did not before watches that a slot of one of the changes becomes what it is in the second state
abbrev pub AreWatchersAt : Parts → List Slot → List Slot → List Change → (ℕ → Bool) → (ℕ → Bool) → Type 0
AreWatchersAt p s t cs old new = (i : ℕ) → new i ≡ true → (old i ≡ true)
    ⊎ ((k : ℕ) × (x : Slot) × Mentions cs k × IsEither s t k x
    × Watches p (record { before = x; after = slot_at t k }) i)

-- the slots of the last two meets that were taken over are alike in both states
pub record AreTaken (now t : List Slot) (taken : Taken) : Type 0 where
  pub last : (m : MeetId) → taken.last ≡ Some m → slot_at now m.0 ≡ slot_at t m.0
  pub earlier : (m : MeetId) → taken.earlier ≡ Some m → slot_at now m.0 ≡ slot_at t m.0
