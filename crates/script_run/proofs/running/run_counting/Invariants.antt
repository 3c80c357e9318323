-- What was written, what waits, and the answers to the lines that are left are the whole text.
use Rattle.std.proofs.Common.{◌≡◌, ◌≤◌, ◌+◌, true, length}
use Rattle.std.specs.List.{list_all}
use Rattle.edit_script.specs.Lines.{lines}
use Rattle.khe_io.specs.Amid.{IsAmid}
use Rattle.script_run.proofs.running.run_counting.Given as goal

abbrev pub invariant-loop-line : goal.invariant-loop-line
invariant-loop-line g l = record {
  amid : IsAmid (g.K.Sink.taken l.fn.out) (g.K.Sink.taken l.out) l.text
      (g.P.Player.answers l.player (l.number + 1) (lines l.rest)) (g.P.Player.answers l.fn.player 1 (lines l.script));
  read : list_all g.P.Player.reads (lines l.rest) ≡ list_all g.P.Player.reads (lines l.script);
  few : l.number + length l.rest ≤ length l.script;
  faultless : g.K.Sink.faults l.out ≡ g.K.Sink.faults l.fn.out;
  steps : g.P.Player.is_counted ≡ true
      → l.steps + g.P.Player.owed l.player + g.P.Player.ahead l.player (lines l.rest)
      ≤ l.fn.steps + g.P.Player.owed l.fn.player + g.P.Player.ahead l.fn.player (lines l.script);
}

abbrev pub decreases-loop-line : goal.decreases-loop-line
decreases-loop-line g l = length l.rest
