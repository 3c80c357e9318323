-- The look keeps the rule.
use Rattle.std.proofs.Common.{arith}
use Rattle.std.proofs.Common.{◌≡◌, ◌∙◌, ◌<◌, ℕ, Option, Some, None, MatchOption, if◌then◌else◌, nat_lt, sym, ap, subst}
use Rattle.std.proofs.Common.{refl}
use Rattle.solve_board.specs.Plays.{Seated}
use Rattle.solve_board.specs.Views.{saw, saw_none}
use Rattle.solve_board.proofs.Looking as looking
use Rattle.solve_board.proofs.boards.Board.look.Goals as goal

pub load-found-requires : goal.load-found-requires
load-found-requires c =
    let board = c.args.self.now in
    let id = board.table.shared.table_id in
    let seat = c.args.seat.now in (
      c.requires.seat.table,
      omega (arith, board.words_are),
      looking.looks board.table.shared.key id.slots seat.id
          seat.me c.requires.weight,
    )

pub returns-clause-answer : goal.returns-clause-answer
returns-clause-answer c =
    let v = c.args.seat.now.me.0 in
    let w = c.load-found.new.seat.me.0 in
    let told = c.load-found.ensures.2 in
    let P : Option ℕ → Type 0 = λ o. MatchOption o (w ≡ saw_none v) (λ n. (w ≡ saw v n) × (n < v.jobs)) in
    let jobs : c.args.self.now.jobs ≡ v.jobs = sym c.requires.seat.jobs in
    subst P (sym (c.job_at.ensures ∙ ap (λ j. if nat_lt c.load-found.result j then Some c.load-found.result else None)
    jobs))
    (looking.look_found v w c.load-found.result (ap (λ (me : Seated). me.0) told.0) told.1
    (nat_lt c.load-found.result v.jobs) refl)
