-- Live slots as a row of bits with marks, in which the next one from a slot on is found by the marks.
use Rattle.std.specs.Prelude.{ℕ, ◌≡◌, ◌<◌, ◌≤◌, ◌*◌, ◌^◌, Bool, true, false, ◌&&◌, nat_lt, Option, List, length}
use Rattle.std.specs.Prelude.{MatchOption}
use Rattle.khe_base.specs.Bits.{is_set}
use Rattle.khe_base.specs.declared.numbers.MeetId.{MeetId}
use Rattle.khe_told.specs.Slots.{slot_at, is_live}
use Rattle.khe_told.specs.declared.slots.Slot.{Slot}
use Rattle.khe_told.specs.declared.changes.Change.{Change}
use Rattle.khe_told.specs.declared.changes.Change.TheVariants as change
use Rattle.khe_solution.specs.Marks.{AreMarked}
use Rattle.khe_solution.specs.declared.lives.LiveRows.{LiveRows}

-- there is a bit for each of n slots and a mark for each word, and each word with a bit is marked
pub record AreLiveRows (slots : ℕ) (t : LiveRows) : Type 0 where
  pub marked : AreMarked t.words.items t.marks.items
  pub room : slots ≤ 64 * length t.words.items
  pub wide : length t.words.items ≤ 64 * length t.marks.items
  pub few : length t.words.items ≤ 2 ^ 26
  pub short_ : length t.marks.items ≤ 2 ^ 26

-- the bits of the live slots are set, and no other
pub record AreLiveBits (s : List Slot) (t : LiveRows) : Type 0 where
  pub rows : AreLiveRows (length s) t
  pub bits : (m : ℕ) → is_set t.words.items m ≡ is_live (slot_at s m)

-- the bits of the live slots below a number are set, and no other
abbrev pub AreLiveBelow : List Slot → ℕ → LiveRows → Type 0
AreLiveBelow s n t = (m : ℕ) → is_set t.words.items m ≡ (nat_lt m n && is_live (slot_at s m))

-- a bit after a change of its slot
abbrev pub lives : Change → Bool → Bool
lives (change.Add m d) b = true
lives (change.Drop m d) b = false
lives _ b = b

-- no slot from a number on has a meet, or this is the first one that has
abbrev pub IsNextMeet : List Slot → ℕ → Option MeetId → Type 0
IsNextMeet s from result = MatchOption result
    ((k : ℕ) → from ≤ k → is_live (slot_at s k) ≡ false)
    (λ m. (from ≤ m.0) × (is_live (slot_at s m.0) ≡ true)
    × ((k : ℕ) → from ≤ k → k < m.0 → is_live (slot_at s k) ≡ false))
