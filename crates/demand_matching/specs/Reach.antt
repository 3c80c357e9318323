-- The demands that are reached from those left out, from one to another that has a supply which it may have.
use Rattle.std.specs.Prelude.{ℕ, ◌*◌, ◌<◌, ◌≤◌, ◌≡◌, ◌≢◌, Bool, true, false, length, List, None, Some, slice_index}
use Rattle.khe_base.specs.Bits.{is_set}
use Rattle.khe_base.specs.IdSet.{has_member}
use Rattle.demand_matching.specs.declared.reach.Reach.{Reach}
use Rattle.demand_matching.specs.declared.table.Table.{Table}
use Rattle.demand_matching.specs.Assigned.{IsSaturated}
use Rattle.demand_matching.specs.Domains.{is_present}
use Rattle.demand_matching.specs.Table.{domains_of, may_take, supply_of, owner_of, demands_in, supplies_in}

-- the demand is in each set that has all that are left out and all supplies that it may have
abbrev pub IsInAll : Table → ℕ → Type 0
IsInAll t demand = (set : ℕ → Bool) → ((other : ℕ) → other < demands_in t → is_present (domains_of t) other ≡ true
    → supply_of t other ≡ None → set other ≡ true)
    → IsSaturated (demands_in t) (supplies_in t) (may_take (domains_of t)) (owner_of t) set → set demand ≡ true

-- the demands of the list are those with a mark, each once, and each is in all such sets
pub record IsReach (t : Table) (demands : List ℕ) (marks : List Bool) : Type 0 where
  pub size : length marks ≡ demands_in t
  pub listed : (demand : ℕ) → has_member marks demand ≡ true
      → (k : ℕ) × (k < length demands) × (slice_index demands k ≡ demand)
  pub marked : (k : ℕ) → k < length demands → has_member marks (slice_index demands k) ≡ true
  pub apart : (j k : ℕ) → j < k → k < length demands → slice_index demands j ≢ slice_index demands k
  pub there : (demand : ℕ) → has_member marks demand ≡ true → is_present (domains_of t) demand ≡ true
  pub all : (demand : ℕ) → has_member marks demand ≡ true → IsInAll t demand

-- where this number are reached, each demand that has a supply which one of them may have is reached
abbrev pub AreAll : Table → ℕ → Type 0
AreAll t met = (r : Reach) → IsReach t r.demands r.marks → met ≤ length r.demands
    → (demand supply by : ℕ) → has_member r.marks demand ≡ true → may_take (domains_of t) demand supply ≡ true
    → owner_of t supply ≡ Some by → has_member r.marks by ≡ true

-- whoever has a supply whose bit is not set is reached
pub record AreSeen (t : Table) (marks : List Bool) (bits : List ℕ) : Type 0 where
  pub room : supplies_in t ≤ 64 * length bits
  pub seen : (supply by : ℕ) → supply < supplies_in t → is_set bits supply ≡ false → owner_of t supply ≡ Some by
      → has_member marks by ≡ true

-- more are reached
pub record Reaches (t : Table) (r r' : Reach) : Type 0 where
  pub reach : IsReach t r'.demands r'.marks
  pub longer : length r.demands ≤ length r'.demands
  pub keeps : (k : ℕ) → k < length r.demands → slice_index r'.demands k ≡ slice_index r.demands k
  pub marks : (demand : ℕ) → has_member r.marks demand ≡ true → has_member r'.marks demand ≡ true

-- all that can be are reached
pub record IsReached (t : Table) (marks : List Bool) : Type 0 where
  pub size : length marks ≡ demands_in t
  pub there : (demand : ℕ) → has_member marks demand ≡ true → is_present (domains_of t) demand ≡ true
  pub all : (demand : ℕ) → has_member marks demand ≡ true → IsInAll t demand
  pub left_out : (demand : ℕ) → demand < demands_in t → is_present (domains_of t) demand ≡ true
      → supply_of t demand ≡ None → has_member marks demand ≡ true
  pub owners : (demand supply by : ℕ) → has_member marks demand ≡ true → may_take (domains_of t) demand supply ≡ true
      → owner_of t supply ≡ Some by → has_member marks by ≡ true
