-- An order of the demands in which those left out come first.
use Rattle.std.specs.Prelude.{ℕ, ◌<◌, ◌≤◌, ◌≡◌, ◌≢◌, true, false, length, None, is_none, slice_index}
use Rattle.demand_matching.specs.declared.table.Table.{Table}
use Rattle.demand_matching.specs.declared.order.Order.{Order}
use Rattle.demand_matching.specs.Domains.{is_present}
use Rattle.demand_matching.specs.Order.{IsOrder}
use Rattle.demand_matching.specs.Table.{domains_of, supply_of, demands_in}

-- the first `left` demands of the order are the present ones that have no supply
pub record IsListing (t : Table) (o : Order) (left : ℕ) : Type 0 where
  pub order : IsOrder (demands_in t) o.demands.items o.spots.items
  pub met_length : length o.met_from.items ≡ demands_in t
  pub fits : left ≤ demands_in t
  pub present : (demand : ℕ) → demand < demands_in t → slice_index o.spots.items demand < left
      → is_present (domains_of t) demand ≡ true
  pub left_out : (demand : ℕ) → demand < demands_in t → slice_index o.spots.items demand < left
      → supply_of t demand ≡ None
  pub listed : (demand : ℕ) → demand < demands_in t → is_present (domains_of t) demand ≡ true
      → supply_of t demand ≡ None → slice_index o.spots.items demand < left

-- a demand that had no supply has one now, and each other has one where it had one
pub record ServesOne (t t' : Table) (demand : ℕ) : Type 0 where
  pub below : demand < demands_in t
  pub had_none : supply_of t demand ≡ None
  pub has_one : is_none (supply_of t' demand) ≡ false
  pub others : (other : ℕ) → other ≢ demand → is_none (supply_of t' other) ≡ is_none (supply_of t other)
