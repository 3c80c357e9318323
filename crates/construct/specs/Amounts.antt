-- Tables by event: the bounds to its meets, and how many meets it gets.
use Rattle.std.specs.Prelude.{ℕ, ◌≡◌, Some, List, drop, length, slice_get}
use Rattle.std.specs.List.{filter_map, fold}
use Rattle.std.specs.Option.{option_map, option_map_or}
use Rattle.construct.specs.Cuts.{amount_of, bounds_of, narrowed, set_by, widest}
use Rattle.construct.specs.declared.bounds.Bounds.{Bounds}
use Rattle.khe_instance.specs.declared.parts.EventInfo.{EventInfo}
use Rattle.khe_instance.specs.declared.parts.Parts.{Parts}
use Rattle.khe_instance.specs.declared.points.Monitor.{Monitor}

-- the widest bounds of the first n events
pub record AreWidest (p : Parts) (n : ℕ) (table : List Bounds) : Type 0 where
  pub many : length table ≡ n
  pub each : (e : ℕ) (event : EventInfo) (b : Bounds) → slice_get p.events e ≡ Some event → slice_get table e ≡ Some b
      → b ≡ widest event.duration

-- what the monitors from this number on make of the bounds in a table are the bounds of each event
pub record AreBoundsFrom (p : Parts) (number : ℕ) (table : List Bounds) : Type 0 where
  pub many : length table ≡ length p.events
  pub each : (e : ℕ) (event : EventInfo) (b : Bounds) → slice_get p.events e ≡ Some event → slice_get table e ≡ Some b
      → fold narrowed b (filter_map (set_by p e) (drop number p.monitors)) ≡ bounds_of p e event.duration

-- bounds after a monitor
unfoldable pub narrowed_by : Parts → ℕ → Monitor → Bounds → Bounds
narrowed_by p e m b = option_map_or (narrowed b) (set_by p e m) b

-- a table after a monitor
pub record AreNarrowed (p : Parts) (m : Monitor) (old new : List Bounds) : Type 0 where
  pub many : length new ≡ length old
  pub each : (e : ℕ) → slice_get new e ≡ option_map (narrowed_by p e m) (slice_get old e)

-- the amounts of the first n events
pub record AreAmounts (p : Parts) (n : ℕ) (amounts : List ℕ) : Type 0 where
  pub many : length amounts ≡ n
  pub each : (e : ℕ) (event : EventInfo) (k : ℕ) → slice_get p.events e ≡ Some event → slice_get amounts e ≡ Some k
      → k ≡ amount_of p e event
