-- The lines so far and those of the slots that are left are those of all slots.
use Rattle.std.proofs.Common.{◌≡◌, ◌++◌, ◌-◌, drop, length}
use Rattle.std.specs.List.{flat_map}
use Rattle.khe_io.specs.Amid.{IsAmid}
use Rattle.script_run.specs.Answers.{slot_text}
use Rattle.script_run.proofs.questions.push_show.Given as goal

abbrev pub invariant-loop-meet : goal.invariant-loop-meet
invariant-loop-meet g l =
    let lines = flat_map (slot_text l.inst) in
    record {
      amid : IsAmid (g.G.Onward.taken l.fn.onward) (g.G.Onward.taken l.onward) l.text (lines (drop l.next.0 l.solution.slots)) (l.fn.text ++ lines l.solution.slots);
      faultless : g.G.Onward.faults l.onward ≡ g.G.Onward.faults l.fn.onward;
    }

abbrev pub decreases-loop-meet : goal.decreases-loop-meet
decreases-loop-meet g l = length l.solution.slots - l.next.0
