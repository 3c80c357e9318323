-- What the threads have come to, put together.
use Rattle.std.proofs.Common.{ℕ, Option, arith, subst, sym}
use Rattle.std.specs.Prelude.{IfSome}
use Rattle.parallel_repair.specs.Turns.{HasEnded, budget}
use Rattle.parallel_repair.proofs.TurnLemmas.{both_ended, split_budget, ok_is}
use Rattle.parallel_repair.specs.declared.workers.Found.{Found}
use Rattle.parallel_repair.proofs.RankLemmas.{lesser_has}
use Rattle.parallel_repair.specs.declared.answers.Best.{Best}
use Rattle.parallel_repair.proofs.crews.+crew+fn-crew-join+arg3.Goals as goal

pub returns-clause-ended : goal.returns-clause-ended
returns-clause-ended g t c =
    let answer = g.W.Work.answer c.args.work.now in
    let jobs = c.args.shared.jobs in
    let v = c.args.seat.me.0 in
    let w = c.split-other.new.seat.me.0 in
    let u = c.split-other.result.me.0 in
    let mine = c.in_ok-mine.mine in
    let theirs = c.in_ok-theirs.theirs in
    let all = c.in_ok-all.all in
    let h = ok_is c.join-theirs.result.1 mine (λ (r : Found). HasEnded answer jobs (budget w) r.seat.me.0 r.rows.items
    r.best) c.join-theirs.ensures.second.1.0 c.in_ok-mine.was in
    let k = ok_is c.join-theirs.result.0 theirs (λ (r : Found). HasEnded answer jobs (budget u) r.seat.me.0 r.rows.items
    r.best) c.join-theirs.ensures.first.1.0 c.in_ok-theirs.was in
    subst (λ (n : ℕ). HasEnded answer jobs n all.seat.me.0 all.rows.items all.best)
    (split_budget v w u c.split-other.ensures.old c.split-other.ensures.new
    (omega (arith, c.requires.left, c.if-workers-le1.false)))
    (both_ended answer jobs (budget w) (budget u) mine.seat.me.0 theirs.seat.me.0 all.seat.me.0 mine.rows.items
    theirs.rows.items all.rows.items mine.best theirs.best all.best h k c.in_ok-all.ensures.view
    c.in_ok-all.ensures.rows c.in_ok-all.ensures.best)

pub returns-clause-fit : goal.returns-clause-fit
returns-clause-fit g t c =
    let fit : Best → Type 0 = λ (b : Best). g.W.Work.IsFit c.args.work.now b.plain in
    let mine = c.in_ok-mine.mine in
    let theirs = c.in_ok-theirs.theirs in
    let has : Found → Type 0 = λ (r : Found). IfSome r.best fit in
    subst (λ (b : Option Best). IfSome b fit) (sym c.in_ok-all.ensures.best)
    (lesser_has fit mine.best theirs.best (ok_is c.join-theirs.result.1 mine has c.join-theirs.ensures.second.1.1
    c.in_ok-mine.was) (ok_is c.join-theirs.result.0 theirs has c.join-theirs.ensures.first.1.1 c.in_ok-theirs.was))
