-- The unit of some durations is their least common multiple: it is above 0, each duration divides it, and it divides
-- every number that all of them divide.
use Rattle.std.specs.Prelude.{ℕ, ◌<◌, List, All}
use Prim.Native.Nat.{◌∣◌}

-- the number is the least common multiple of the durations, and 1 where there is none: each
-- duration divides it, and it divides each number that all durations divide
pub record IsUnit (durations : List ℕ) (unit : ℕ) : Type 0 where
  pub positive : 0 < unit
  pub divided : All (λ d. d ∣ unit) durations
  pub least : (n : ℕ) → All (λ d. d ∣ n) durations → unit ∣ n

-- the number is the least common multiple of two numbers
pub record IsLeastMultiple (a b m : ℕ) : Type 0 where
  pub positive : 0 < m
  pub left : a ∣ m
  pub right : b ∣ m
  pub least : (n : ℕ) → a ∣ n → b ∣ n → m ∣ n
