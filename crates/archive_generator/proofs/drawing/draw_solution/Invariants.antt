-- The entries so far, and those that the rest will draw, are all.
use Rattle.std.proofs.Common.{◌≡◌, ◌++◌, drop}
use Rattle.archive_generator.specs.Job.{entries, solution}
use Rattle.archive_generator.specs.Turns.{gathered}
use Rattle.archive_generator.proofs.drawing.draw_solution.Given as goal

abbrev pub invariant-loop-event : goal.invariant-loop-event
invariant-loop-event l =
    let left = gathered (entries l.fn.size) (drop l.event-index l.events) l.draws.state in
    record {
      value : l.entries ++ left.0 ≡ (solution l.fn.size l.events l.fn.draws.state).0;
      state : left.1 ≡ (solution l.fn.size l.events l.fn.draws.state).1;
    }
