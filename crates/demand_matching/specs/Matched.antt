-- A matching at rest is a maximum: no more demands could be served.
use Rattle.std.specs.Prelude.{ℕ, ◌<◌, ◌≤◌, ◌≡◌, true, List, slice_index}
use Rattle.demand_matching.specs.declared.table.Table.{Table}
use Rattle.demand_matching.specs.declared.order.Order.{Order}
use Rattle.demand_matching.specs.Domains.{is_present}
use Rattle.demand_matching.specs.Listing.{IsListing}
use Rattle.demand_matching.specs.Search.{IsReached, IsMarked}
use Rattle.demand_matching.specs.Table.{IsTable, domains_of, may_take, demands_in, supplies_in}

-- the first `met` demands of the order are present, and each supply that one of them may have
-- is that of one of them
pub record IsShut (t : Table) (spots : List ℕ) (met : ℕ) : Type 0 where
  pub fits : met ≤ demands_in t
  pub present : (demand : ℕ) → demand < demands_in t → slice_index spots demand < met
      → is_present (domains_of t) demand ≡ true
  pub saturated : (demand supply : ℕ) → demand < demands_in t → slice_index spots demand < met → supply < supplies_in t
      → may_take (domains_of t) demand supply ≡ true → IsReached t spots met supply

-- `left` demands are left out, and they are among demands that have all supplies that these may have: no
-- matching leaves out fewer
pub record IsMaximum (t : Table) (o : Order) (left met : ℕ) : Type 0 where
  pub table : IsTable t
  pub listing : IsListing t o left
  pub longer : left ≤ met
  pub shut : IsShut t o.spots.items met

-- and the bits of the supplies that the set has are not set in one row, while in the other all are
pub record IsReady (t : Table) (o : Order) (left met : ℕ) (outside unseen : List ℕ) : Type 0 where
  pub maximum : IsMaximum t o left met
  pub marked : IsMarked t o.spots.items outside met
  pub all_set : IsMarked t o.spots.items unseen 0
