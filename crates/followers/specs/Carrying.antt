-- Followers that get the starts that their ties give them, one after the other.
use Rattle.std.specs.Prelude.{ℕ, ◌≡◌, ◌≢◌, ◌+◌, ◌==◌, ◌≤◌, true, false, if◌then◌else◌, Option, Some, None, List, length, IfSome}
use Rattle.khe_base.specs.declared.numbers.TimeId.{TimeId}
use Rattle.khe_instance.specs.declared.parts.Parts.{Parts}
use Rattle.khe_told.specs.Slots.{is_live, length_of, slot_at}
use Rattle.khe_told.specs.declared.slots.Slot.{Slot}
use Rattle.khe_solution.specs.Editing.{later, with_start}
use Rattle.khe_solution.specs.Reading.{is_fixed_event}
use Rattle.followers.specs.Links.{IsRow, occurs}
use Rattle.followers.specs.Ties.{is_to, tie_at}
use Rattle.followers.specs.declared.edits.Tie.{Tie}

-- a meet may get this start, or lose the one that it has
pub record MayPut (p : Parts) (s : List Slot) (m : ℕ) (start : Option TimeId) : Type 0 where
  pub live : is_live (slot_at s m) ≡ true
  pub unfixed : is_fixed_event p (slot_at s m).event.0 ≡ false
  pub fits : IfSome start (λ t. t.0 + length_of (slot_at s m) ≤ length p.times)

-- each follower of a leader may get its place by this start
abbrev pub MayCarry : Parts → List Slot → List (Option Tie) → ℕ → Option TimeId → Type 0
MayCarry p s ties leader start = (m : ℕ) (t : Tie) → tie_at ties m ≡ Some t → t.leader.0 ≡ leader
    → MayPut p s m (later t.offset start)

-- a slot whose meet is at its place, if it follows this leader with this start
abbrev pub carried : ℕ → Option TimeId → Option Tie → Slot → Slot
carried leader start None x = x
carried leader start (Some t) x = if t.leader.0 == leader then with_start x (later t.offset start) else x

-- `count` followers from this one on are left, and the others are at their places
pub record AreLeft (ties : List (Option Tie)) (next prev : List ℕ) (leader : ℕ) (start : Option TimeId) (at count : ℕ)
    (s s2 : List Slot) : Type 0 where
  pub list : List ℕ
  pub before : ℕ
  pub row : IsRow next prev (length ties) before at list
  pub size : length list ≡ count
  pub once : (k : ℕ) → occurs k list ≤ 1
  pub to : (k : ℕ) → occurs k list ≢ 0 → is_to leader (tie_at ties k) ≡ true
  pub long : length s2 ≡ length s
  pub done : (k : ℕ) → occurs k list ≡ 0 → slot_at s2 k ≡ carried leader start (tie_at ties k) (slot_at s k)
  pub left : (k : ℕ) → occurs k list ≢ 0 → slot_at s2 k ≡ slot_at s k

-- all of them are
pub record AreCarried (ties : List (Option Tie)) (leader : ℕ) (start : Option TimeId) (s s2 : List Slot) : Type 0 where
  pub long : length s2 ≡ length s
  pub each : (k : ℕ) → slot_at s2 k ≡ carried leader start (tie_at ties k) (slot_at s k)
