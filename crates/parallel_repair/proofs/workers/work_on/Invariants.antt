-- The worker has claimed jobs alone so far, and each claim leaves fewer to come.
use Rattle.std.proofs.Common.{◌-◌, length}
use Rattle.std.specs.Prelude.{IfSome}
use Rattle.solve_board.specs.Seats.{view, IsSeatOf}
use Rattle.parallel_repair.specs.declared.answers.Best.{Best}
use Rattle.parallel_repair.specs.Turns.{IsAtWork, budget}
use Rattle.parallel_repair.proofs.workers.work_on.Given as goal

abbrev pub invariant-jobs : goal.invariant-jobs
invariant-jobs g l = record {
  desk : g.W.Work.IsReady l.work l.desk;
  seat : IsSeatOf l.board l.found.seat;
  fit : IfSome l.found.best (λ (b : Best). g.W.Work.IsFit l.work b.plain);
  work : IsAtWork (g.W.Work.answer l.work) l.jobs (budget (view l.fn.seat)) (view l.found.seat) l.found.rows.items
      l.found.best;
}

abbrev pub decreases-jobs : goal.decreases-jobs
decreases-jobs g l = l.jobs - length (view l.found.seat).claims
