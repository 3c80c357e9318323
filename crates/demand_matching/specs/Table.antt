-- The domains of all demands, and which demand has which supply.
use Rattle.std.specs.Prelude.{ℕ, ◌*◌, ◌/◌, ◌%◌, ◌^◌, ◌<◌, ◌≤◌, ◌≡◌, Bool, true, length, is_none, Option, Some, None}
use Rattle.std.specs.Prelude.{slice_index_or}
use Rattle.khe_base.specs.Bits.{is_set}
use Rattle.demand_matching.specs.declared.domains.Domain.{Domain}
use Rattle.demand_matching.specs.declared.table.Table.{Table}
use Rattle.demand_matching.specs.Domains.{Domains, may_have, admits, domain_of, IsInRange}
use Rattle.demand_matching.specs.Assigned.{IsMatching}

-- the domains that the table keeps
abbrev pub domains_of : Table → Domains
domains_of t = record {
  times = t.times;
  resources = t.resources;
  last = t.last;
  width = t.width;
  demands =
      t.demands.items;
}

-- a supply as one number: the times of the first resource, then those of the second, and so on
abbrev pub may_take : Domains → ℕ → ℕ → Bool
may_take w demand supply = may_have w demand (supply / w.last) (supply % w.last)

-- whether a domain admits the supply
abbrev pub admits_supply : Domains → Domain → ℕ → Bool
admits_supply w d supply = admits w.times w.resources d (supply / w.last) (supply % w.last)

-- which supply a demand has, and which demand has a supply
abbrev pub supply_of : Table → ℕ → Option ℕ
supply_of t demand = slice_index_or t.supplies.items demand None

abbrev pub owner_of : Table → ℕ → Option ℕ
owner_of t supply = slice_index_or t.owners.items supply None

-- how many demands and how many supplies there are
abbrev pub demands_in : Table → ℕ
demands_in t = length t.demands.items

abbrev pub supplies_in : Table → ℕ
supplies_in t = t.width * t.last

-- all domains are in range, each demand that has a supply may have it, and the bits of the free
-- supplies are set
pub record IsTable (t : Table) : Type 0 where
  pub small : length t.demands.items < 2 ^ 32
  pub narrow : t.width < 2 ^ 32
  pub few : t.width * t.last < 2 ^ 32
  pub supplies_length : length t.supplies.items ≡ length t.demands.items
  pub owners_length : length t.owners.items ≡ t.width * t.last
  pub in_range : (demand : ℕ) (d : Domain) → domain_of (domains_of t) demand ≡ Some d → IsInRange (domains_of t) d
  pub matching : IsMatching (length t.demands.items) (t.width * t.last) (may_take (domains_of t)) (supply_of t)
      (owner_of t)
  pub room : t.width * t.last ≤ 64 * length t.free.items
  pub free : (supply : ℕ) → supply < t.width * t.last → is_set t.free.items supply ≡ is_none (owner_of t supply)

-- the demand has a supply, and the domain admits it
pub record IsServed (t : Table) (demand : ℕ) (d : Domain) : Type 0 where
  pub supply : ℕ
  pub owned : supply_of t demand ≡ Some supply
  pub admitted : admits_supply (domains_of t) d supply ≡ true
