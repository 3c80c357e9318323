-- The seat has claimed jobs alone so far, and each claim leaves fewer to come.
use Rattle.std.proofs.Common.{◌≡◌, ◌-◌, length}
use Rattle.solve_board.specs.Seats.{view, IsSeatOf}
use Rattle.engine_tests.specs.Drawing.{IsDrawing, budget}
use Rattle.engine_tests.proofs.drawing.draw.Given as goal

abbrev pub invariant-claims : goal.invariant-claims
invariant-claims l = record {
  seat : IsSeatOf l.board l.seat;
  drawing : IsDrawing l.count (view l.seat);
  budget : budget (view l.seat) ≡ budget (view l.fn.seat);
}

abbrev pub decreases-claims : goal.decreases-claims
decreases-claims l = l.count - length (view l.seat).claims
