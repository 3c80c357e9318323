use Rattle.std.proofs.Common.{ℕ, ◌≡◌, ◌-◌, ◌<◌, false, length}
use Rattle.khe_base.specs.Bits.{is_set}
use Rattle.monitor_graph.specs.Left.{AreLeft}
use Rattle.monitor_graph.specs.Lines.{line_costs}
use Rattle.monitor_graph.proofs.dearer.mark_changed.Given as goal

abbrev pub invariant-loop-place : goal.invariant-loop-place
invariant-loop-place l = record {
  left : AreLeft (line_costs l.lines) l.marked.items l.words.items l.summary.items;
  long : length l.marked.items ≡ length l.lines;
  clear : (m : ℕ) → m < l.from → is_set l.words.items m ≡ false;
}

abbrev pub decreases-loop-place : goal.decreases-loop-place
decreases-loop-place l = length l.lines - l.from
