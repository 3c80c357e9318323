-- A supply is a resource at a time. A demand may have the supplies of its domain: a resource or a set of them, at a
-- time or at a set of them moved by a shift.
use Rattle.std.specs.Prelude.{ℕ, ◌-◌, ◌<◌, ◌==◌, nat_le, length, Bool, false, ◌&&◌, List, [], Option, Some, None}
use Rattle.std.specs.Prelude.{is_some, slice_index_or, slice_set, IsTrue, replicate}
use Rattle.demand_matching.specs.declared.domains.Pick.{Pick}
use Rattle.demand_matching.specs.declared.domains.Pick.TheVariants.{One, «Set»}
use Rattle.demand_matching.specs.declared.domains.Domain.{Domain}

-- the sets that were given, the number of times, the number of resources, and the domain of each
-- demand, where it is present
pub record Domains : Type 0 where
  pub times : List (List Bool)
  pub resources : List (List Bool)
  pub last : ℕ
  pub width : ℕ
  pub demands : List (Option Domain)

-- whether the number is in the pick
abbrev pub is_picked : List (List Bool) → Pick → ℕ → Bool
is_picked sets (One n) y = n == y
is_picked sets («Set» k) y = slice_index_or (slice_index_or sets k []) y false

-- whether the pick is one number, or names a set that was given
abbrev pub IsGiven : List (List Bool) → Pick → Type 0
IsGiven sets (One n) = Unit {0}
IsGiven sets («Set» k) = k < length sets

-- whether the domain admits the resource at the time
abbrev pub admits : List (List Bool) → List (List Bool) → Domain → ℕ → ℕ → Bool
admits times resources d resource time =
    is_picked resources d.resources resource && (nat_le d.shift time && is_picked times d.times (time - d.shift))

-- whether there is a domain, and it admits the resource at the time
abbrev pub admits_where_present : List (List Bool) → List (List Bool) → Option Domain → ℕ → ℕ → Bool
admits_where_present times resources None resource time = false
admits_where_present times resources (Some d) resource time = admits times resources d resource time

-- the domain of a demand, if it is present
abbrev pub domain_of : Domains → ℕ → Option Domain
domain_of w demand = slice_index_or w.demands demand None

-- whether the demand is present
abbrev pub is_present : Domains → ℕ → Bool
is_present w demand = is_some (domain_of w demand)

-- whether the demand is present and may have the resource at the time
abbrev pub may_have : Domains → ℕ → ℕ → ℕ → Bool
may_have w demand resource time = admits_where_present w.times w.resources (domain_of w demand) resource time

-- the domain names only sets that were given, and admits only resources and times in range
pub record IsInRange (w : Domains) (d : Domain) : Type 0 where
  pub times : IsGiven w.times d.times
  pub resources : IsGiven w.resources d.resources
  pub resource : (resource time : ℕ) → IsTrue (admits w.times w.resources d resource time) → resource < w.width
  pub time : (resource time : ℕ) → IsTrue (admits w.times w.resources d resource time) → time < w.last

-- the same domains, but for that of one demand
abbrev pub with_domain : Domains → ℕ → Option Domain → Domains
with_domain w demand domain = record w { demands = slice_set w.demands demand domain }

-- the given number of demands without a domain
abbrev pub no_domains : List (List Bool) → List (List Bool) → ℕ → ℕ → ℕ → Domains
no_domains times resources last width demands =
    record { times = times; resources = resources; last = last; width = width; demands = replicate demands None }
