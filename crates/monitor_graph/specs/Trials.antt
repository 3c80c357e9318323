-- The totals of a board with other deviations than its own.
use Rattle.std.specs.Prelude.{ℕ, ◌≡◌, List, map, slice_index}
use Rattle.khe_base.specs.declared.sums.Totals.{Totals}
use Rattle.monitor_graph.specs.Boards.{fixed_of}
use Rattle.monitor_graph.specs.Lines.{AreTotalled}
use Rattle.monitor_graph.specs.declared.lines.Line.{Line}

-- the totals of lines that are these but for their deviations, which are others
pub record AreTotalsWith (lines : List Line) (deviations : List ℕ) (t : Totals) : Type 0 where
  pub others : List Line
  pub rest : map fixed_of lines ≡ map fixed_of others
  pub deviations_ : map (λ (x : Line). x.deviation) others ≡ deviations
  pub totals : AreTotalled others t.hard t.soft

-- one of these deviations is its line's
abbrev pub IsStill : List Line → List ℕ → ℕ → Type 0
IsStill lines deviations m = slice_index deviations m ≡ slice_index (map (λ (x : Line). x.deviation) lines) m
