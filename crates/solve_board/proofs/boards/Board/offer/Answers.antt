-- The offer keeps the rule.
use Rattle.std.proofs.Common.{arith}
use Rattle.solve_board.proofs.Offering as offering
use Rattle.solve_board.proofs.boards.Board.offer.Goals as goal

pub fetch_min-requires : goal.fetch_min-requires
fetch_min-requires c =
    let board = c.args.self.now in
    let id = board.table.shared.table_id in
    let seat = c.args.seat.now in (
      c.requires.seat.table,
      omega (arith, board.words_are),
      offering.offers board.table.shared.key id.slots seat.id
          c.args.job seat.me c.requires.weight (omega (arith, c.requires.job.0, c.requires.seat.jobs, board.jobs_are))
          c.requires.job.1,
    )
