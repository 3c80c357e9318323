-- The join keeps the rule, and what the seat then has was claimed once.
use Rattle.std.proofs.Common.{◌≡◌, ◌++◌, ◌∙◌, arith, ap}
use Rattle.solve_board.specs.Counts.{one_at, times}
use Rattle.solve_board.specs.Plays.{Seated}
use Rattle.solve_board.proofs.Sums.{weigh-append}
use Rattle.solve_board.proofs.Joining as joining
use Rattle.solve_board.proofs.boards.Board.join.Goals as goal

pub join_seat-requires : goal.join_seat-requires
join_seat-requires c =
    let board = c.args.self.now in
    let seat = c.args.seat.now in
    let other = c.args.other in (
      c.requires.seats.0.table,
      c.requires.seats.1.table,
      c.requires.seats.1.slots,
      omega (arith, board.words_are),
      joining.joins board.table.shared.key seat.id seat.me.0 other.id other.me.0 c.requires.weights.0
          c.requires.weights.1,
    )

pub load-requires : goal.load-requires
load-requires c =
    let board = c.args.self.now in
    let id = board.table.shared.table_id in
    let seat = c.join_seat.new.seat in (
      c.join_seat.ensures.0 ∙ c.requires.seats.0.table,
      omega (arith, board.words_are),
      joining.tells
          board.table.shared.key id.slots seat.id seat.me,
    )

pub returns-clause-apart : goal.returns-clause-apart
returns-clause-apart c = λ n.
    let v = c.args.seat.now.me.0 in
    let u = c.args.other.me.0 in
    let both : c.join_seat.new.seat.me.0.claims ≡ v.claims ++ u.claims =
    ap (λ (me : Seated). me.0.claims) c.join_seat.ensures.2 in
    let once = c.load.ensures.2.1 n in
    let sum = weigh-append (one_at n) v.claims u.claims in
    let same = ap (times n) both in
    omega (arith, once, sum, same)
