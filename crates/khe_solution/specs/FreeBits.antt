-- Free slots as a row of bits, in which the first one from a slot on is found by words.
use Rattle.std.specs.Prelude.{ℕ, ◌≡◌, ◌<◌, ◌≤◌, ◌*◌, ◌^◌, Bool, true, false, ◌&&◌, nat_lt, is_none, List, length}
use Rattle.khe_base.specs.Bits.{is_set}
use Rattle.khe_told.specs.Slots.{slot_at, is_live}
use Rattle.khe_told.specs.declared.slots.Slot.{Slot}
use Rattle.khe_told.specs.declared.changes.Change.{Change}
use Rattle.khe_told.specs.declared.changes.Change.TheVariants as change

-- whether a slot is there and has no meet
abbrev pub is_free : List Slot → ℕ → Bool
is_free s m = nat_lt m (length s) && is_none (slot_at s m).span

-- the bits of the free slots are set, and no other
pub record AreFree (s : List Slot) (words : List ℕ) : Type 0 where
  pub room : length s ≤ 64 * length words
  pub few : length words < 2 ^ 32
  pub bits : (m : ℕ) → is_set words m ≡ is_free s m

-- a bit after a change of its slot
abbrev pub frees : Change → Bool → Bool
frees (change.Add m d) b = false
frees (change.Drop m d) b = true
frees _ b = b

-- no bit of these numbers is set, and the first set bit from a number on
abbrev pub AreClear : List ℕ → ℕ → ℕ → Type 0
AreClear words from end = (m : ℕ) → from ≤ m → m < end → is_set words m ≡ false

abbrev pub IsFirst : List ℕ → ℕ → ℕ → Type 0
IsFirst words from n = (from ≤ n) × (is_set words n ≡ true) × AreClear words from n

-- the slots of these numbers have meets, and the first free slot from a number on
abbrev pub AreLive : List Slot → ℕ → ℕ → Type 0
AreLive s from end = (k : ℕ) → from ≤ k → k < end → is_live (slot_at s k) ≡ true

abbrev pub IsFirstFree : List Slot → ℕ → ℕ → Type 0
IsFirstFree s from n = (from ≤ n) × (n < length s) × (is_live (slot_at s n) ≡ false) × AreLive s from n

-- the bits of the free slots below a number are set, and no other
abbrev pub AreSetBelow : List Slot → ℕ → List ℕ → Type 0
AreSetBelow s n words = (m : ℕ) → is_set words m ≡ (nat_lt m n && is_none (slot_at s m).span)
