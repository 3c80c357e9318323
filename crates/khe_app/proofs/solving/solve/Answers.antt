-- What was written, or why nothing was.
use Rattle.khe_app.proofs.SolveEnds.{end_solved, solve_not_two}
use Rattle.khe_app.proofs.solving.solve.Goals as goal

pub returns-in-Ok-clause-end : goal.returns-in-Ok-clause-end
returns-in-Ok-clause-end g c =
    end_solved (g.S.Shelf.holdings c.args.shelf.now) c.args.name.now c.args.asked.solution c.args.asked.depth c.args.asked.budget
    c.args.asked.jobs c.in-Ok.answer _ _ _ _ _ _ _ c.write_solve.result.0 c.in-Ok.ensures.answer
    c.write_solve.ensures.written

pub returns-in-Ok-clause-status : goal.returns-in-Ok-clause-status
returns-in-Ok-clause-status g c = solve_not_two c.args.asked.solution c.args.asked.depth c.args.asked.budget c.args.asked.jobs c.in-Ok.answer _ _
    _ _ c.write_solve.result.0 c.write_solve.ensures.written
