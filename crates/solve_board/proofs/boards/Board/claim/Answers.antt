-- The claim keeps the rule.
use Rattle.std.proofs.Common.{arith}
use Rattle.solve_board.proofs.Claiming as claiming
use Rattle.solve_board.proofs.boards.Board.claim.Goals as goal

pub fetch_add-requires : goal.fetch_add-requires
fetch_add-requires c =
    let board = c.args.self.now in
    let id = board.table.shared.table_id in
    let seat = c.args.seat.now in (
      c.requires.seat.table,
      omega (arith, board.words_are),
      claiming.claims board.table.shared.key id.slots seat.id
          seat.me c.requires.weight (λ n is. omega (arith, c.requires.below n is, c.requires.seat.jobs, board.jobs_are)),
    )
