-- The seat has all that the rule speaks of.
use Rattle.std.proofs.Common.{◌≡◌, ◌≤◌, ℕ, Option, MatchOption, [], nat_lt, sym, subst, refl}
use Rattle.std.specs.Slots.{slots_items}
use Rattle.solve_board.specs.Counts.{IsAmong}
use Rattle.solve_board.proofs.Closing as closing
use Rattle.solve_board.proofs.boards.Board.close.Goals as goal

found : (c : goal.After-free) → closing.IsWhole c.args.self.jobs c.word-next.result c.word.result c.args.seat.me.0
found c =
    let board = c.args.self in
    let closed = c.close_with-closed in
    subst (λ (jobs : ℕ). closing.IsWhole jobs c.word-next.result c.word.result c.args.seat.me.0) board.jobs_are
    (closing.closes board.table.shared.key c.args.seat.id c.args.seat.me.0 (slots_items closed.result.words)
    (slots_items closed.result.slots) c.word-next.result c.word.result closed.ensures.values.2 c.requires.whole
    c.word-next.ensures c.word.ensures)

pub returns-clause-run : goal.returns-clause-run
returns-clause-run c = (found c).run

pub returns-clause-numbers : goal.returns-clause-numbers
returns-clause-numbers c = (found c).numbers

pub returns-clause-looks : goal.returns-clause-looks
returns-clause-looks c = (found c).looks

pub returns-clause-least : goal.returns-clause-least
returns-clause-least c =
    let v = c.args.seat.me.0 in
    let P : Option ℕ → Type 0 = λ o. MatchOption o (v.offers ≡ [])
    (λ m. IsAmong m v.offers × ((n : ℕ) → IsAmong n v.offers → m ≤ n)) in
    subst P (sym c.job_at-least.ensures) (closing.least_found c.args.self.jobs c.word-next.result c.word.result v
    (found c) (nat_lt c.word.result c.args.self.jobs) refl)
