-- Which meets have ties, as a row of bits.
use Rattle.std.specs.Prelude.{ℕ, ◌≡◌, ◌<◌, ◌≤◌, ◌*◌, ◌^◌, None, Option, MatchOption, true, List, length}
use Rattle.khe_base.specs.Bits.{is_set}
use Rattle.khe_base.specs.declared.numbers.MeetId.{MeetId}
use Rattle.followers.specs.Ties.{follows, tie_at}
use Rattle.followers.specs.declared.edits.Tie.{Tie}

-- the bits of the meets with a tie are set, and no other
pub record AreMarked (ties : List (Option Tie)) (words : List ℕ) : Type 0 where
  pub room : length ties ≤ 64 * length words
  pub few : length words < 2 ^ 32
  pub bits : (m : ℕ) → is_set words m ≡ follows ties m

-- the first meet from a number on that has a tie, or there is none
abbrev pub IsNextTie : List (Option Tie) → ℕ → Option MeetId → Type 0
IsNextTie ties from result = MatchOption result ((k : ℕ) → from ≤ k → tie_at ties k ≡ None)
    (λ m. (from ≤ m.0) × (follows ties m.0 ≡ true) × ((k : ℕ) → from ≤ k → k < m.0 → tie_at ties k ≡ None))
