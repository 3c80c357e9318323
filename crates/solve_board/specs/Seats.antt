-- What the contracts of a board read of a seat.
use Rattle.std.specs.Prelude.{◌≡◌, ℕ, List, []}
use Rattle.atomic_table.specs.declared.shared.Seat.{Seat}
use Rattle.solve_board.specs.States.{list_of}
use Rattle.solve_board.specs.Runs.{Event, IsRun, ran, nobody}
use Rattle.solve_board.specs.declared.boards.Board.{Board}
use Rattle.solve_board.specs.declared.views.BoardView.{BoardView}

abbrev pub BoardSeat : Type 0
BoardSeat = Seat (Unit {0}) BoardView

-- what the seat knows
abbrev pub view : BoardSeat → BoardView
view seat = seat.me.0

-- some run of a board as plain data leads to this next number and to a worker with these claims and offers
abbrev pub EndsRun : BoardView → ℕ → Type 0
EndsRun v next = (events : List Event) × IsRun nobody events × ((ran nobody events).next ≡ next)
    × ((worker : ℕ) × (list_of (ran nobody events).claims worker ≡ v.claims)
    × (list_of (ran nobody events).offers worker ≡ v.offers))

-- the seat is this board's
pub record IsSeatOf (board : Board) (seat : BoardSeat) : Type 0 where
  pub table : seat.table_id ≡ board.table.shared.table_id
  pub slots : seat.me.1 ≡ []
  pub jobs : seat.me.0.jobs ≡ board.jobs
