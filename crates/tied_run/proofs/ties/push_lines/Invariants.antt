-- The lines so far and those of the meets that are left are those of all meets.
use Rattle.std.proofs.Common.{◌≡◌, ◌++◌, ◌-◌, length}
use Rattle.khe_io.specs.Amid.{IsAmid}
use Rattle.tied_run.specs.Answers.{tie_lines}
use Rattle.tied_run.proofs.TieLaws.{lines_from}
use Rattle.tied_run.proofs.ties.push_lines.Given as goal

abbrev pub invariant-loop-meet : goal.invariant-loop-meet
invariant-loop-meet g l =
    let ties = l.tied.now.ties in
    record {
      amid : IsAmid (g.G.Onward.taken l.fn.onward) (g.G.Onward.taken l.onward) l.text (lines_from ties l.next.0)
          (l.fn.text ++ tie_lines ties);
      faultless : g.G.Onward.faults l.onward ≡ g.G.Onward.faults l.fn.onward;
    }

abbrev pub decreases-loop-meet : goal.decreases-loop-meet
decreases-loop-meet g l = length l.tied.now.ties - l.next.0
