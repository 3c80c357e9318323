-- How far a search has come: the first demands of an order are the ones that it met.
use Rattle.std.specs.Prelude.{ℕ, ◌+◌, ◌*◌, ◌<◌, ◌≤◌, ◌≡◌, true, false, length, List, Some, None, slice_index}
use Rattle.khe_base.specs.Bits.{is_set}
use Rattle.demand_matching.specs.declared.domains.Domain.{Domain}
use Rattle.demand_matching.specs.declared.table.Table.{Table}
use Rattle.demand_matching.specs.declared.table.Found.{Found}
use Rattle.demand_matching.specs.declared.table.Found.TheVariants.{Open, Closed}
use Rattle.demand_matching.specs.declared.order.Order.{Order}
use Rattle.demand_matching.specs.Domains.{is_present}
use Rattle.demand_matching.specs.Order.{IsOrder, HasSameFirst}
use Rattle.demand_matching.specs.Table.{domains_of, may_take, admits_supply, supply_of, owner_of, demands_in}
use Rattle.demand_matching.specs.Table.{supplies_in}

-- the demand at a place of the order was met from an earlier one, not before the head, which may
-- have its supply
pub record IsMet (t : Table) (head : ℕ) (demands met_from : List ℕ) (place supply : ℕ) : Type 0 where
  pub after : head ≤ slice_index met_from (slice_index demands place)
  pub before : slice_index met_from (slice_index demands place) < place
  pub allowed : may_take (domains_of t) (slice_index demands (slice_index met_from (slice_index demands place))) supply
      ≡ true

-- the first demands of the order are present, and each from the head on that has a supply was met
pub record IsSearch (t : Table) (head : ℕ) (demands spots met_from : List ℕ) (len : ℕ) : Type 0 where
  pub order : IsOrder (demands_in t) demands spots
  pub met_length : length met_from ≡ demands_in t
  pub len_fits : len ≤ demands_in t
  pub there : (place : ℕ) → place < len → is_present (domains_of t) (slice_index demands place) ≡ true
  pub met : (place supply : ℕ) → head ≤ place → place < len → supply_of t (slice_index demands place) ≡ Some supply
      → IsMet t head demands met_from place supply

-- the first demands of the order stay
pub record KeepsFirst (demands spots demands' spots' : List ℕ) (len : ℕ) : Type 0 where
  pub demand : (place : ℕ) → place < len → slice_index demands' place ≡ slice_index demands place
  pub spot : (demand : ℕ) → slice_index spots demand < len → slice_index spots' demand ≡ slice_index spots demand

-- the supply is that of one of the first demands of the order
pub record IsReached (t : Table) (spots : List ℕ) (len supply : ℕ) : Type 0 where
  pub by : ℕ
  pub owner : owner_of t supply ≡ Some by
  pub within : slice_index spots by < len

-- a demand that has a supply which one of the first demands of an order may have is one of these
abbrev pub IsFenced : Table → List ℕ → ℕ → Type 0
IsFenced t spots count = (demand supply by : ℕ) → demand < demands_in t → slice_index spots demand < count
    → may_take (domains_of t) demand supply ≡ true → owner_of t supply ≡ Some by → slice_index spots by < count

-- where each demand that is met is one of the first, these stay the first
abbrev pub IsWithin : Table → Order → Order → ℕ → ℕ → Type 0
IsWithin t o o' len more = (count : ℕ) → len ≤ count → IsFenced t o.spots.items count
    → (more ≤ count) × HasSameFirst (demands_in t) o.spots.items o'.spots.items count

-- the supplies whose bits are not set are those of the first demands of an order
pub record IsMarked (t : Table) (spots bits : List ℕ) (len : ℕ) : Type 0 where
  pub room : supplies_in t ≤ 64 * length bits
  pub reached : (supply : ℕ) → supply < supplies_in t → is_set bits supply ≡ false → IsReached t spots len supply

-- no supply that the demand may have is free
abbrev pub IsTaken : Table → ℕ → Type 0
IsTaken t demand = (supply : ℕ) → may_take (domains_of t) demand supply ≡ true → owner_of t supply ≡ None → ⊥

-- the search goes on with more demands met
pub record GoesOn (t : Table) (head : ℕ) (o o' : Order) (bits' : List ℕ) (len more : ℕ) : Type 0 where
  pub longer : len ≤ more
  pub search : IsSearch t head o'.demands.items o'.spots.items o'.met_from.items more
  pub keeps : KeepsFirst o.demands.items o.spots.items o'.demands.items o'.spots.items len
  pub within : IsWithin t o o' len more
  pub marked : IsMarked t o'.spots.items bits' more

-- a free supply that a domain admits
pub record IsFreeFor (t : Table) (d : Domain) (supply : ℕ) : Type 0 where
  pub below : supply < supplies_in t
  pub free : owner_of t supply ≡ None
  pub admitted : admits_supply (domains_of t) d supply ≡ true

-- the search ended: with a free supply that the demand at a place may have, or with each supply
-- that a demand met may have being that of a demand met
pub record IsOpen (t : Table) (o o' : Order) (bits' : List ℕ) (head left place supply : ℕ) : Type 0 where
  pub search : IsSearch t head o'.demands.items o'.spots.items o'.met_from.items (place + 1)
  pub keeps : KeepsFirst o.demands.items o.spots.items o'.demands.items o'.spots.items left
  pub within : IsWithin t o o' left left
  pub marked : IsMarked t o'.spots.items bits' left
  pub after : head ≤ place
  pub below : supply < supplies_in t
  pub free : owner_of t supply ≡ None
  pub allowed : may_take (domains_of t) (slice_index o'.demands.items place) supply ≡ true

pub record IsClosed (t : Table) (o o' : Order) (bits' : List ℕ) (head left met : ℕ) : Type 0 where
  pub longer : left ≤ met
  pub search : IsSearch t head o'.demands.items o'.spots.items o'.met_from.items met
  pub keeps : KeepsFirst o.demands.items o.spots.items o'.demands.items o'.spots.items left
  pub within : IsWithin t o o' left met
  pub marked : IsMarked t o'.spots.items bits' met
  pub closed : (place supply : ℕ) → head ≤ place → place < met
      → may_take (domains_of t) (slice_index o'.demands.items place) supply ≡ true
      → IsReached t o'.spots.items met supply

abbrev pub Ends : Table → Order → Order → List ℕ → ℕ → ℕ → Found → Type 0
Ends t o o' bits' head left (Closed met) = IsClosed t o o' bits' head left met
Ends t o o' bits' head left (Open place supply) = IsOpen t o o' bits' head left place supply
