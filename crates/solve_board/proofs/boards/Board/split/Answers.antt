-- The split keeps the rule.
use Rattle.std.proofs.Common.{arith}
use Rattle.solve_board.proofs.Splitting as splitting
use Rattle.solve_board.proofs.boards.Board.split.Goals as goal

pub split_seat-requires : goal.split_seat-requires
split_seat-requires c =
    let board = c.args.self.now in
    let seat = c.args.seat.now in (
      c.requires.seat.table,
      omega (arith, board.words_are),
      splitting.splits board.table.shared.key seat.id seat.me.0
          c.requires.weight c.requires.left,
    )
