-- The excess of a set of demands is how many they are less how many supplies any of them may have. The deficit is
-- the greatest excess. A Hall set has that excess and is contained in each set that has it.
use Rattle.std.specs.Prelude.{ℕ, ◌+◌, ◌≤◌, ◌≡◌, length, Bool, ◌&&◌, Option, Some, is_none, IsTrue}
use Rattle.demand_matching.specs.Counts.{count_below, any_below, sum_below}
use Rattle.demand_matching.specs.Domains.{Domains, is_present, may_have}

-- how many present demands are in the set
abbrev pub size_of : Domains → (ℕ → Bool) → ℕ
size_of w set = count_below (length w.demands) (λ demand. is_present w demand && set demand)

-- whether a demand of the set may have the resource at the time
abbrev pub is_neighbour : Domains → (ℕ → Bool) → ℕ → ℕ → Bool
is_neighbour w set resource time = any_below (length w.demands)
    (λ demand. set demand && may_have w demand resource time)

-- how many supplies at least one demand of the set may have
abbrev pub neighbours_of : Domains → (ℕ → Bool) → ℕ
neighbours_of w set = sum_below w.width (λ resource. count_below w.last (λ time. is_neighbour w set resource time))

-- the excess of the set is the greatest
abbrev pub HasGreatestExcess : Domains → (ℕ → Bool) → Type 0
HasGreatestExcess w set = (other : ℕ → Bool) → size_of w other + neighbours_of w set ≤ neighbours_of w other + size_of w
    set

-- the number is the greatest excess of a set of present demands
pub record IsDeficit (w : Domains) (deficit : ℕ) : Type 0 where
  pub bound : (set : ℕ → Bool) → size_of w set ≤ neighbours_of w set + deficit
  pub attained : ∥ ((set : ℕ → Bool) × (size_of w set ≡ neighbours_of w set + deficit)) ∥₁

-- the set has the greatest excess, and is contained in each set that has it
pub record IsHallSet (w : Domains) (set : ℕ → Bool) : Type 0 where
  pub present : (demand : ℕ) → IsTrue (set demand) → IsTrue (is_present w demand)
  pub greatest : HasGreatestExcess w set
  pub least : (other : ℕ → Bool) → HasGreatestExcess w other → (demand : ℕ) → IsTrue (set demand)
      → IsTrue (other demand)

-- each present demand has a supply of its own, which it may have, but for `left_out` that have none
pub record IsAssignment (w : Domains) (supply : ℕ → Option (ℕ × ℕ)) (left_out : ℕ) : Type 0 where
  pub admissible : (demand resource time : ℕ) → supply demand ≡ Some (resource, time)
      → IsTrue (may_have w demand resource time)
  pub distinct : (one other resource time : ℕ) → supply one ≡ Some (resource, time)
      → supply other ≡ Some (resource, time) → one ≡ other
  pub left : count_below (length w.demands) (λ demand. is_present w demand && is_none (supply demand)) ≡ left_out
