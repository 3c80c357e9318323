-- How far queued monitors are measured where only lower totals are asked for.
use Rattle.std.specs.Prelude.{ℕ, ◌≡◌, ◌≢◌, ◌⊎◌, Bool, true, Some, List, length, nat_eq, slice_get, slice_index}
use Rattle.std.specs.List.{count_by}
use Rattle.khe_base.specs.declared.numbers.MonitorId.{MonitorId}
use Rattle.khe_base.specs.declared.sums.Totals.{Totals}
use Rattle.khe_instance.specs.declared.parts.Parts.{Parts}
use Rattle.khe_instance.specs.declared.points.Monitor.{Monitor}
use Rattle.khe_told.specs.Agreement.{deviation_in}
use Rattle.khe_told.specs.declared.slots.Slot.{Slot}
use Rattle.monitor_graph.specs.Boards.{Board, deviations_of}
use Rattle.monitor_graph.specs.Trials.{AreTotalsWith, IsStill}
use Rattle.khe_engine.specs.Settled.{AreMeasured}

-- how often a monitor is in a list
abbrev pub often : List MonitorId → ℕ → ℕ
often xs k = count_by (λ (m : MonitorId). nat_eq m.0 k) xs

-- the deviation that the graph has of a monitor
abbrev pub kept : Board → ℕ → ℕ
kept b k = slice_index (deviations_of b) k

-- of a list of queued monitors, the ones that deviate now were measured, and no other
pub record AreBegun (p : Parts) (s : List Slot) (b : Board) (done : List MonitorId) (t : Totals) : Type 0 where
  pub ds : List ℕ
  pub long : length ds ≡ length p.monitors
  pub totals_ : AreTotalsWith b.lines ds t
  pub still : (k : ℕ) → (often done k ≡ 0) ⊎ (kept b k ≡ 0) → IsStill b.lines ds k
  pub right : (k : ℕ) (m : Monitor) → slice_get p.monitors k ≡ Some m → often done k ≢ 0 → kept b k ≢ 0
      → slice_get ds k ≡ Some (deviation_in p s m)

-- of the queued monitors the ones that deviate now were measured, and of the others all
pub record AreOpen (p : Parts) (waits : ℕ → Bool) (s : List Slot) (b : Board) (t : Totals) : Type 0 where
  pub ds : List ℕ
  pub long : length ds ≡ length p.monitors
  pub totals_ : AreTotalsWith b.lines ds t
  pub measured : AreMeasured p waits s ds
  pub still : (k : ℕ) → waits k ≡ true → kept b k ≡ 0 → IsStill b.lines ds k
  pub right : (k : ℕ) (m : Monitor) → slice_get p.monitors k ≡ Some m → waits k ≡ true → kept b k ≢ 0
      → slice_get ds k ≡ Some (deviation_in p s m)
