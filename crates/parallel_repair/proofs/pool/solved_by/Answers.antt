-- What the seat and its rows show once the board is closed.
use Rattle.std.proofs.Common.{ℕ, Option, List, All, subst, sym}
use Rattle.std.specs.Prelude.{IfSome}
use Rattle.parallel_repair.specs.Worked.{IsRow}
use Rattle.parallel_repair.specs.Turns.{HasEnded, budget}
use Rattle.parallel_repair.specs.Fates.{AreFates}
use Rattle.parallel_repair.specs.declared.answers.Best.{Best}
use Rattle.parallel_repair.specs.declared.answers.Row.{Row}
use Rattle.parallel_repair.proofs.SolvedLemmas.{finished}
use Rattle.parallel_repair.proofs.FateLemmas.{all_rows}
use Rattle.parallel_repair.proofs.pool.solved_by.Goals as goal

pub returns-clause-solved : goal.returns-clause-solved
returns-clause-solved g c =
    let answer = g.W.Work.answer c.args.work.now in
    let jobs = c.args.jobs in
    let found = c.in_ok-found.found in
    let v = found.seat.me.0 in
    let closed = c.close-least in
    let fates = c.in_ok-fates.fates in
    let left = budget c.in_ok-board.seat.me.0 in
    let ended = subst (λ (b : Option Best). HasEnded answer jobs left v found.rows.items b) c.in-Some.is
    c.in_ok-found.ensures.ended in
    let rows = c.as_slice.ensures.value in
    let are = c.in_ok-fates.ensures answer (subst (λ (rs : List Row). All (IsRow answer jobs) rs) (sym rows)
    (all_rows (IsRow answer jobs) found.rows.items ended.is.worked.rows_are)) in
    finished answer jobs left v found.rows.items c.in-Some.best fates closed.result.next closed.result.least ended
    (record { numbers = closed.ensures.numbers; looks = closed.ensures.looks; least = closed.ensures.least })
    (subst (λ (n : ℕ). AreFates answer jobs found.rows.items n fates) c.unwrap_or.ensures
    (subst (λ (rs : List Row). AreFates answer jobs rs c.unwrap_or.result fates) rows are))

pub returns-clause-fit : goal.returns-clause-fit
returns-clause-fit g c =
    subst (λ (b : Option Best). IfSome b (λ (x : Best). g.W.Work.IsFit c.args.work.now x.plain)) c.in-Some.is
    c.in_ok-found.ensures.fit
