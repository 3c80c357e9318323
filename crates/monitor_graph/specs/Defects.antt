-- The defects as a row of bits.
use Rattle.std.specs.Prelude.{ℕ, ◌≡◌, ◌*◌, ◌^◌, ◌<◌, ◌≤◌, List, length}
use Rattle.khe_base.specs.Bits.{is_set}
use Rattle.monitor_graph.specs.Lines.{is_defect_at}
use Rattle.monitor_graph.specs.Rows.{AreSummed}
use Rattle.monitor_graph.specs.declared.lines.Line.{Line}

-- the row has a bit for each defect, and a summary
pub record AreDefects (lines : List Line) (words summary : List ℕ) : Type 0 where
  pub summed : AreSummed words summary
  pub bits : (m : ℕ) → is_set words m ≡ is_defect_at lines m
  pub room : length lines ≤ 64 * length words
  pub summary_room : length words ≤ 64 * length summary
  pub few : length words < 2 ^ 32
  pub summary_few : length summary < 2 ^ 32
