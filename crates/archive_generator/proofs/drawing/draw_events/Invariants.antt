-- The events so far, and those that the rest will draw, are all; and they are short.
use Rattle.std.proofs.Common.{◌≡◌, ◌≤◌, ◌++◌, All, drop}
use Rattle.archive_generator.specs.Job.{event, events}
use Rattle.archive_generator.specs.Names.{below}
use Rattle.archive_generator.specs.Turns.{in_turn}
use Rattle.archive_generator.proofs.drawing.draw_events.Given as goal

abbrev pub invariant-loop-number : goal.invariant-loop-number
invariant-loop-number l =
    let left = in_turn event (drop l.number (below l.fn.size)) l.draws.state in
    record {
      value : l.events ++ left.0 ≡ (events l.fn.size l.fn.draws.state).0;
      state : left.1 ≡ (events l.fn.size l.fn.draws.state).1;
      short : All (λ e. e.duration ≤ 3) l.events;
    }
