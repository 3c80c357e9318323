-- The monitors that cost more than when the costs were marked.
use Rattle.std.specs.Prelude.{ℕ, ◌+◌, ◌*◌, ◌≡◌, ◌≤◌, nat_lt, if◌then◌else◌, Option, Some, None, List, [], ◌∷◌, length}
use Rattle.std.specs.Prelude.{sum}
use Rattle.khe_base.specs.declared.limits.TheConstants.{MONITORS}

-- the places at which a cost exceeds the marked one, counted on from a number
unfoldable pub dearer_from : ℕ → List ℕ → List ℕ → List ℕ
dearer_from n [] costs = []
dearer_from n (m ∷ ms) [] = []
dearer_from n (m ∷ ms) (c ∷ cs) = if nat_lt m c then n ∷ dearer_from (n + 1) ms cs else dearer_from (n + 1) ms cs

-- the numbers of the monitors that are dearer than marked
abbrev pub dearer : List ℕ → List ℕ → List ℕ
dearer marked costs = dearer_from 0 marked costs

-- the only element, where there is just one
unfoldable pub only : List ℕ → Option ℕ
only [] = None
only (m ∷ []) = Some m
only (m ∷ k ∷ ks) = None

-- 1 where a cost exceeds the marked one
abbrev pub is_dearer : ℕ → ℕ → ℕ
is_dearer marked cost = if nat_lt marked cost then 1 else 0

-- how many are dearer, and the sum of their numbers
pub record AreCompared (costs marked : List ℕ) (count numbers : ℕ) : Type 0 where
  pub long : length marked ≡ length costs
  pub few : length costs ≤ MONITORS
  pub counted : count ≡ length (dearer marked costs)
  pub summed : numbers ≡ sum (dearer marked costs)

-- what a change of one cost may take away, and that nothing overflows
pub record CanRecount (marked was count numbers k : ℕ) : Type 0 where
  pub counted : is_dearer marked was ≤ count
  pub summed : is_dearer marked was * k ≤ numbers
  pub count_small : count ≤ MONITORS
  pub sum_small : numbers ≤ MONITORS * MONITORS
