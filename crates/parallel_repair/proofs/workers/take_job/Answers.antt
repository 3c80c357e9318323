-- Each way to go on.
use Rattle.std.proofs.Common.{Option, Some, true, sym, subst}
use Rattle.std.specs.Prelude.{IfSome}
use Rattle.parallel_repair.specs.Ranks.{lesser}
use Rattle.parallel_repair.specs.Turns.{HasTaken, best_of}
use Rattle.parallel_repair.proofs.TurnLemmas.{took_past, took_skipped, took_run, claimed_there}
use Rattle.parallel_repair.proofs.RankLemmas.{lesser_has}
use Rattle.parallel_repair.specs.declared.answers.Best.{Best}
use Rattle.parallel_repair.proofs.workers.take_job.Goals as goal

pub returns-then-job-jobs-clause-taken : goal.returns-then-job-jobs-clause-taken
returns-then-job-jobs-clause-taken g c =
    let found = c.args.found in
    took_past (g.W.Work.answer c.args.work.now) c.args.jobs found.seat.me.0 found.rows.items found.best
    c.claim-job.result c.requires.work c.claim-job.new.seat.me.0 c.claim-job.ensures.view c.if-job-jobs.true

pub returns-then-is_needless-clause-taken : goal.returns-then-is_needless-clause-taken
returns-then-is_needless-clause-taken g c =
    let found = c.args.found in
    took_skipped (g.W.Work.answer c.args.work.now) c.args.jobs found.seat.me.0 found.rows.items found.best
    c.claim-job.result c.requires.work c.claim-job.new.seat.me.0 c.claim-job.ensures.view
    c.is_needless.new.seat.me.0 c.is_needless.ensures.view (c.is_needless.ensures.lower c.if-is_needless.true)
    c.if-job-jobs.false c.claim-job.ensures.counted

pub offer_free-requires-clause-job : goal.offer_free-requires-clause-job
offer_free-requires-clause-job g c =
    claimed_there c.args.jobs c.args.found.seat.me.0 c.claim-job.new.seat.me.0 c.is_needless.new.seat.me.0
    c.claim-job.result c.requires.work.is.jobs_are c.claim-job.ensures.view c.is_needless.ensures.view
    c.if-job-jobs.false

pub returns-clause-taken : goal.returns-clause-taken
returns-clause-taken g c =
    let found = c.args.found in
    let answer = g.W.Work.answer c.args.work.now in
    let x = c.offer_free.new.seat.me.0 in
    let took = took_run answer c.args.jobs found.seat.me.0 found.rows.items found.best c.claim-job.result
    c.requires.work c.claim-job.new.seat.me.0 c.claim-job.ensures.view
    c.is_needless.new.seat.me.0 x c.in_ok-answer.answer c.is_needless.ensures.view c.in_ok-answer.ensures.answer
    c.offer_free.ensures.view c.if-job-jobs.false c.claim-job.ensures.counted in
    subst (λ b. HasTaken answer c.args.jobs found.seat.me.0 x c.push.new.self.items b true) (sym c.lesser-best.ensures)
    (subst (λ rows. HasTaken answer c.args.jobs found.seat.me.0 x rows
    (lesser found.best (Some (best_of c.claim-job.result c.in_ok-answer.answer))) true)
    (sym c.in_ok-push.ensures.items) took)

pub returns-clause-fit : goal.returns-clause-fit
returns-clause-fit g c =
    let fit : Best → Type 0 = λ (b : Best). g.W.Work.IsFit c.args.work.now b.plain in
    let mine = Some (best_of c.claim-job.result c.in_ok-answer.answer) in
    subst (λ (b : Option Best). IfSome b fit) (sym c.lesser-best.ensures)
    (lesser_has fit c.args.found.best mine c.requires.fit c.in_ok-answer.ensures.fit)
