-- The looks so far leave what the seat has claimed.
use Rattle.solve_board.specs.Seats.{view, IsSeatOf}
use Rattle.engine_tests.specs.Looking.{HasLooked}
use Rattle.engine_tests.proofs.looking.sees.Given as goal

abbrev pub invariant-loop : goal.invariant-loop
invariant-loop l = record {
  seat : IsSeatOf l.board l.seat;
  looked : HasLooked (view l.fn.seat) (view l.seat);
}
