-- The tables of a state without meets, while they are made.
use Rattle.std.specs.Prelude.{ℕ, ◌+◌, ◌-◌, ◌*◌, ◌≡◌, ◌==◌, ◌<◌, ◌≤◌, ◌⊎◌, Bool, false, ◌&&◌, ◌||◌, nat_le, Option, None}
use Rattle.std.specs.Prelude.{Some, List, [], length, map, take, All, slice_get, slice_index_or}
use Rattle.std.specs.List.{list_all, list_any}
use Rattle.std.specs.Option.{option_map_or}
use Rattle.khe_base.specs.IdSet.{has_member}
use Rattle.khe_base.specs.declared.limits.TheConstants.{CELLS}
use Rattle.khe_base.specs.declared.numbers.EventId.{EventId}
use Rattle.khe_base.specs.declared.numbers.ResourceId.{ResourceId}
use Rattle.khe_instance.specs.Lookups.{place_at}
use Rattle.khe_instance.specs.Slots.{HasSlot, first_task}
use Rattle.khe_instance.specs.declared.parts.EventInfo.{EventInfo}
use Rattle.khe_instance.specs.declared.parts.Parts.{Parts}
use Rattle.khe_instance.specs.declared.parts.Place.{Place}
use Rattle.khe_instance.specs.declared.points.Point.{Point}
use Rattle.khe_instance.specs.declared.points.Point.TheVariants.{Event, EventResource, Resource}
use Rattle.khe_instance.specs.declared.rules.Rule.{Rule}
use Rattle.demand_matching.specs.Domains.{Domains, domain_of}
use Rattle.hall_report.specs.Demands.{has_type, unavailable_demands}
use Rattle.hall_report.specs.Kept.{cell_demand}
use Rattle.hall_report.specs.Picks.{cell_domain, start_entry, resource_entry}
use Rattle.hall_report.specs.Renewing.{HasSameSets}
use Rattle.hall_report.specs.Sets.{set_at, AreSets}
use Rattle.hall_report.specs.Strict.{lets_start, monitor_lets_have, monitor_lets_start, monitor_wants_free}
use Rattle.hall_report.specs.Units.{units_of, tasks_of}

-- for each of the first `count` durations the times from which a meet ends with the last or before
pub record AreWholeStarts (last count : ℕ) (sets : List (List Bool)) : Type 0 where
  pub amount : length sets ≡ count
  pub sized : All (λ set. length set ≡ last) sets
  pub members : (d t : ℕ) → d < count → 1 ≤ d → has_member (slice_index_or sets d []) t ≡ nat_le (t + d) last

-- the number of a set that serves for a duration
pub record ServesFor (last d number : ℕ) : Type 0 where
  pub some : 1 ≤ number
  pub there : number < last + 2
  pub same : (t : ℕ) → nat_le (t + number) last ≡ nat_le (t + d) last

-- each of the first n meet slots has the set of the duration that it stands for
pub record AreStartEntries (events : List EventInfo) (last n : ℕ) (entries : List ℕ) : Type 0 where
  pub amount : length entries ≡ n
  pub below : (i : ℕ) → i < n → slice_index_or entries i 0 < last + 2
  pub serves : (e i : ℕ) (event : EventInfo) → slice_get events e ≡ Some event → event.first_meet ≤ i
      → i < event.first_meet + event.duration → i < n
      → ServesFor last (i - event.first_meet + 1) (slice_index_or entries i 0)

-- the sets of starts, as the first n monitors narrow them
pub record AreStartsTo (p : Parts) (n : ℕ) (sets : List (List Bool)) (entries : List ℕ) : Type 0 where
  pub are : AreSets (length p.times + 2) (length p.times) sets entries
  pub amount : length entries ≡ units_of p.events
  pub members : (e d t : ℕ) (event : EventInfo) → slice_get p.events e ≡ Some event → 1 ≤ d → d ≤ event.duration
      → has_member (set_at sets entries (start_entry p.events e d)) t
      ≡ nat_le (t + d) (length p.times) && list_all (monitor_lets_start p e d t) (take n p.monitors)

-- the sets of `count` durations of an event, narrowed to what a rule lets start
pub record AreNarrowedBy (rule : Rule) (first count : ℕ) (olds : List (List Bool)) (old : List ℕ)
    (sets : List (List Bool)) (entries : List ℕ) : Type 0 where
  pub amount : length entries ≡ length old
  pub members : (d t : ℕ) → 1 ≤ d → d ≤ count → has_member (set_at sets entries (first + d - 1)) t
      ≡ has_member (set_at olds old (first + d - 1)) t && lets_start rule d t
  pub others : (i : ℕ) → i < length old → (i < first) ⊎ (first + count ≤ i) → set_at sets entries i ≡ set_at olds old i

-- whether a resource has this type
abbrev pub is_of_type : Parts → ℕ → ℕ → Bool
is_of_type p w r = option_map_or (λ x. w == x.rtype) (slice_get p.resources r) false

-- for each of the first `count` types its resources
pub record AreTypeSets (p : Parts) (count : ℕ) (sets : List (List Bool)) : Type 0 where
  pub amount : length sets ≡ count
  pub sized : All (λ set. length set ≡ length p.resources) sets
  pub members : (w r : ℕ) → w < count → has_member (slice_index_or sets w []) r ≡ is_of_type p w r

-- each place of the first n meet slots has the set of its type
pub record AreTypeEntries (p : Parts) (n : ℕ) (entries : List ℕ) : Type 0 where
  pub amount : length entries ≡ first_task p.events n
  pub below : All (λ y. y < p.types) entries
  pub types : (u e k : ℕ) (place : Place) → u < n → HasSlot p.events e u → place_at p.events e k ≡ Some place
      → slice_index_or entries (first_task p.events u + k) 0 ≡ place.rtype

-- the sets of resources, as the first n monitors narrow them
pub record AreResourcesTo (p : Parts) (n : ℕ) (sets : List (List Bool)) (entries : List ℕ) : Type 0 where
  pub are : AreSets p.types (length p.resources) sets entries
  pub amount : length entries ≡ tasks_of p.events
  pub members : (e k r : ℕ) (place : Place) → place_at p.events e k ≡ Some place
      → has_member (set_at sets entries (resource_entry p.events e k)) r
      ≡ has_type p (Some place) r && list_all (monitor_lets_have p e k r) (take n p.monitors)

-- the cells that the first n monitors want free
pub record AreCellsTo (p : Parts) (n : ℕ) (cells : List Bool) : Type 0 where
  pub size : length cells ≡ length p.resources * length p.times
  pub members : (r t : ℕ) → r < length p.resources → t < length p.times
      → has_member cells (r * length p.times + t) ≡ list_any (monitor_wants_free p r t) (take n p.monitors)

-- the event, the event resource, or the resource that is a point
abbrev pub event_of : Point → Option EventId
event_of (Event x) = Some x
event_of _ = None

abbrev pub place_of : Point → Option (EventId × ℕ)
place_of (EventResource x k) = Some (x, k)
place_of _ = None

abbrev pub resource_of : Point → Option ResourceId
resource_of (Resource x) = Some x
resource_of _ = None

-- `count` cells from a first one on are marked at these times too
pub record AreMarkedTo (first count : ℕ) (times old cells : List Bool) : Type 0 where
  pub size : length cells ≡ length old
  pub members : (t : ℕ) → t < count → has_member cells (first + t) ≡ has_member old (first + t) || has_member times t
  pub others : (c : ℕ) → (c < first) ⊎ (first + count ≤ c) → has_member cells c ≡ has_member old c

-- the cells that are to be free, as a list of their numbers
pub record AreCells (p : Parts) (cells : List ℕ) : Type 0 where
  pub few : length cells ≤ CELLS
  pub below : All (λ c. c < length p.resources * length p.times) cells
  pub listed : map (cell_demand (length p.times)) cells ≡ unavailable_demands p

-- the demands from a first one on have the domains of cells, and all else is as before
pub record AreWanted (last first : ℕ) (cells : List ℕ) (old new : Domains) : Type 0 where
  pub sets : HasSameSets old new
  pub cell_domains : (i : ℕ) → i < length cells
      → domain_of new (first + i) ≡ Some (cell_domain last (slice_index_or cells i 0))
  pub others : (j : ℕ) → (j < first) ⊎ (first + length cells ≤ j) → domain_of new j ≡ domain_of old j
