-- What the seats have claimed.
use Rattle.std.proofs.Common.{◌≡◌, ◌∙◌, ◌++◌, ◌∷◌, [], ℕ, List, ap, arith}
use Rattle.solve_board.specs.declared.views.BoardView.{BoardView}
use Rattle.solve_board.proofs.Callers.{just_claimed, look_claims, look_jobs, one_below}
use Rattle.engine_tests.proofs.boards.a_seat_sees_what_another_offers.Goals as goal

abbrev claims_of : BoardView → List ℕ
claims_of v = v.claims

abbrev jobs_of : BoardView → ℕ
jobs_of v = v.jobs

pub offer-requires-clause-job : goal.offer-requires-clause-job
offer-requires-clause-job g c =
    let first = c.claim-first in
    let second = c.claim-second in
    let split = c.split-other in
    let jobs : second.new.seat.me.0.jobs ≡ 2 =
    ap jobs_of second.ensures.view ∙ ap jobs_of split.ensures.new ∙ ap jobs_of first.ensures.view
    ∙ ap jobs_of c.in_ok-board.ensures.view in (
      omega (arith, jobs, c.if-second-ne1.false),
      just_claimed split.result.me.0 second.new.seat.me.0 second.result
          second.ensures.view,
    )

pub claim-third-requires-clause-below : goal.claim-third-requires-clause-below
claim-third-requires-clause-below g c =
    let first = c.claim-first in
    let split = c.split-other in
    let looked = c.look-seen in
    let old = split.new.seat.me.0 in
    let new = looked.new.seat.me.0 in
    let claims : new.claims ≡ first.result ∷ [] =
    look_claims looked.result old new looked.ensures.answer ∙ ap claims_of split.ensures.old
    ∙ ap claims_of first.ensures.view ∙ ap (λ (v : BoardView). v.claims ++ first.result ∷ [])
    c.in_ok-board.ensures.view in
    let jobs : new.jobs ≡ 2 =
    look_jobs looked.result old new looked.ensures.answer ∙ ap jobs_of split.ensures.old ∙ ap jobs_of first.ensures.view
    ∙ ap jobs_of c.in_ok-board.ensures.view in
    one_below new.claims first.result new.jobs claims (omega (arith, jobs, c.if-first-ne0.false))
