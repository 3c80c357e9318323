-- The monitors at a place of an event, and what stands in memory for them.
use Rattle.std.specs.Prelude.{ℕ, ◌≡◌, ◌==◌, ◌<◌, ◌&&◌, Bool, false, List, [], length, replicate, slice_get}
use Rattle.std.specs.Prelude.{slice_index_or}
use Rattle.std.specs.List.{filter, range_with_len}
use Rattle.std.specs.Option.{option_map_or}
use Rattle.khe_instance.specs.Listing.{AreTabled}
use Rattle.khe_instance.specs.Lookups.{places_at}
use Rattle.khe_instance.specs.declared.parts.Parts.{Parts}
use Rattle.khe_instance.specs.declared.points.Monitor.{Monitor}
use Rattle.khe_instance.specs.declared.points.Point.{Point}
use Rattle.khe_instance.specs.declared.points.Point.TheVariants.{EventResource}

-- whether the point is this place of this event
abbrev pub is_place : Point → ℕ → ℕ → Bool
is_place (EventResource own place) e k = (own.0 == e) && (place == k)
is_place _ e k = false

-- whether the monitor with a number is at a place of an event
abbrev pub is_at_place : List Monitor → ℕ → ℕ → ℕ → Bool
is_at_place monitors e k i = option_map_or (λ m. is_place m.point e k) (slice_get monitors i) false

-- the monitors at a place of an event, ascending
abbrev pub monitors_at_place : Parts → ℕ → ℕ → List ℕ
monitors_at_place p e k = filter (is_at_place p.monitors e k) (range_with_len 0 (length p.monitors))

-- for each place of each event its monitors
abbrev pub AreByPlace : Parts → List (List (List ℕ)) → Type 0
AreByPlace p table = AreTabled (is_at_place p.monitors) (length p.events) (places_at p.events) (length p.monitors) table

-- the first events have an empty list for each of their places
pub record HasPlaces (p : Parts) (events : ℕ) (table : List (List (List ℕ))) : Type 0 where
  pub rows : length table ≡ events
  pub each : (e : ℕ) → e < events → slice_index_or table e [] ≡ replicate (places_at p.events e) []

-- a point that is a place has a list in the table
abbrev pub HasPoint : Point → List (List (List ℕ)) → Type 0
HasPoint (EventResource own place) table = (own.0 < length table) × (place < length (slice_index_or table own.0 []))
HasPoint _ table = Unit {0}
