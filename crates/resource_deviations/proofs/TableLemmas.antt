-- The counts while a task is added, one time after the other.
use Rattle.std.proofs.Common.{◌≡◌, ℕ, ◌+◌, ◌==◌, ◌&&◌, nat_le, nat_lt, cond, List, length}
use Rattle.timetables.specs.Counts.{row_of, count_at}

-- what is counted once the times from the first on and below t are covered
pub record Covered (old now : List (List ℕ)) (r from t : ℕ) : Type 0 where
  pub resources : length now ≡ length old
  pub times : (q : ℕ) → length (row_of now q) ≡ length (row_of old q)
  pub counts : (q s : ℕ) → count_at now q s ≡ count_at old q s + cond ((r == q) && (nat_le from s && nat_lt s t)) 1 0
