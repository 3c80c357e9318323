-- What is short in a state. The deficit is the greatest excess over all sets of its demands, and the demands that
-- compete are those in every set that has it. Where the deficit is 0 none compete.
use Rattle.std.specs.Prelude.{ℕ, zero, suc, ◌+◌, ◌-◌, ◌==◌, ◌≡◌, ◌<◌, ◌^◌, max, Bool, true, false, not, ◌&&◌, ◌||◌, List, []}
use Rattle.std.specs.Prelude.{◌∷◌, ◌++◌, map, length}
use Rattle.std.specs.List.{list_all, list_any}
use Rattle.khe_base.specs.IdSet.{has_member}
use Rattle.khe_instance.specs.declared.parts.Parts.{Parts}
use Rattle.khe_told.specs.declared.slots.Slot.{Slot}
use Rattle.demand_matching.specs.Counts.{count_below, sum_below}
use Rattle.demand_matching.specs.Domains.{Domains}
use Rattle.demand_matching.specs.Excess.{size_of, neighbours_of}
use Rattle.hall_report.specs.Demands.{chosen, demands, domains, runs_at, takes}
use Rattle.hall_report.specs.declared.demand.Demand.{Demand}
use Rattle.hall_report.specs.declared.shortages.Shortage.{Shortage}

-- all sets of the numbers below a size
unfoldable pub all_sets : ℕ → List (List Bool)
all_sets zero = [] ∷ []
all_sets (suc n) = map (λ set. false ∷ set) (all_sets n) ++ map (λ set. true ∷ set) (all_sets n)

-- the greatest of some numbers, and 0 of none
abbrev pub greatest : List ℕ → ℕ
greatest [] = 0
greatest (x ∷ xs) = max x (greatest xs)

-- by how many the demands of a set outnumber their supplies
abbrev pub excess_of : Domains → List Bool → ℕ
excess_of w set = size_of w (has_member set) - neighbours_of w (has_member set)

-- the greatest excess of a set of demands
unfoldable pub greatest_excess : Domains → ℕ
greatest_excess w = greatest (map (excess_of w) (all_sets (length w.demands)))

-- whether a set has it
abbrev pub has_greatest : Domains → List Bool → Bool
has_greatest w set = size_of w (has_member set) == neighbours_of w (has_member set) + greatest_excess w

-- whether a demand is in every set that has it
unfoldable pub competes : Domains → ℕ → Bool
competes w demand = list_all (λ set. not (has_greatest w set) || has_member set demand) (all_sets (length w.demands))

-- the deficit of a told state, and the demands that compete, in their order
unfoldable pub deficit_of : Parts → List Slot → ℕ
deficit_of p s = greatest_excess (domains p s)

unfoldable pub hall_of : Parts → List Slot → List Demand
hall_of p s = chosen (competes (domains p s)) 0 (demands p s)

-- how many supplies at least one of the demands may have
abbrev pub supplies_of : Parts → List Slot → List Demand → ℕ
supplies_of p s ds = sum_below (length p.resources)
    (λ r. count_below (length p.times) (λ t. list_any (λ d. takes p s d r && runs_at p s d t) ds))

-- these are the demands that compete: they outnumber the supplies that they may have by the deficit,
-- and are as many as 32 bits count
pub record AreCompeting (p : Parts) (s : List Slot) (hall : List Demand) : Type 0 where
  pub are : hall ≡ hall_of p s
  pub outnumber : length hall ≡ supplies_of p s hall + deficit_of p s
  pub few : length hall < 2 ^ 32

-- these are what is short
pub record IsShortageOf (p : Parts) (s : List Slot) (x : Shortage) : Type 0 where
  pub deficit : x.deficit ≡ deficit_of p s
  pub hall : AreCompeting p s x.demands
