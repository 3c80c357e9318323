-- The solutions so far, and those that the rest will draw, are all.
use Rattle.std.proofs.Common.{ℕ, ◌≡◌, ◌++◌, drop}
use Rattle.archive_generator.specs.Job.{solution, solutions}
use Rattle.archive_generator.specs.Names.{below}
use Rattle.archive_generator.specs.Turns.{in_turn}
use Rattle.archive_generator.proofs.drawing.draw_solutions.Given as goal

abbrev pub invariant-loop-number : goal.invariant-loop-number
invariant-loop-number l =
    let left = in_turn (λ (n y : ℕ). solution l.fn.size l.events y) (drop l.number (below 4)) l.draws.state in
    record {
      value : l.solutions ++ left.0 ≡ (solutions l.fn.size l.events l.fn.draws.state).0;
      state : left.1 ≡ (solutions l.fn.size l.events l.fn.draws.state).1;
    }
