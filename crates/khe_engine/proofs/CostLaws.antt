-- The costs of a state, compared with those that were marked.
use Rattle.std.proofs.Common.{ℕ, ◌≡◌, List, ap}
use Rattle.std.specs.Option.{option_map}
use Rattle.khe_base.specs.declared.numbers.MonitorId.{MonitorId}
use Rattle.khe_instance.specs.declared.parts.Parts.{Parts}
use Rattle.khe_told.specs.declared.slots.Slot.{Slot}
use Rattle.monitor_graph.specs.Boards.{Board}
use Rattle.monitor_graph.specs.Dearer.{dearer, only}
use Rattle.monitor_graph.specs.Values as graphs
use Rattle.khe_engine.specs.States.{state_of}
use Rattle.khe_engine.specs.Values.{HasValues, only_dearer}
use Rattle.khe_engine.proofs.ValueLaws.{costs_same}

numbered : ℕ → MonitorId
numbered m = record { 0 = m }

pub dearer_same : (p : Parts) (s : List Slot) (b : Board) → HasValues p s b
    → graphs.only_dearer p b ≡ only_dearer p (state_of s b) b.marked
unfolding numbered
dearer_same p s b h = ap (λ xs. option_map numbered (only (dearer b.marked xs))) (costs_same p s b h)
