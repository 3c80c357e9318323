-- Lines that tests make by hand.
use Rattle.std.specs.Prelude.{◌≤◌, List, All, length}
use Rattle.khe_base.specs.declared.limits.TheConstants.{MONITORS}
use Rattle.monitor_graph.specs.Opened.{IsFresh}
use Rattle.monitor_graph.specs.declared.lines.Line.{Line}

-- no more than there may be monitors, and none of them costs anything yet
pub record AreFresh (lines : List Line) : Type 0 where
  pub few : length lines ≤ MONITORS
  pub each : All IsFresh lines
