-- What is made of the span is a window.
use Rattle.std.proofs.Common.{Bor, map, arith}
use Rattle.std.proofs.lemmas.List.{length-map}
use Rattle.parallel_solve.proofs.BatchLemmas.{window_of}
use Rattle.xhstt_shape.specs.declared.records.RawSolution.{RawSolution}
use Rattle.parallel_solve.proofs.windows.WindowMaker.make_beside.Goals as goal

pub returns-clause-window : goal.returns-clause-window
returns-clause-window g c =
    let f = g.J.SolutionJob.made c.args.work.now.job.now c.args.work.now.solutions.resolved.now in
    let now = λ (x : Bor RawSolution). x.now in
    let raws = map now c.args.work.now.solutions.raws.now in
    let long = length-map c.args.work.now.solutions.raws.now now in
    let span = c.span-span.ensures in
    window_of f raws c.args.first c.span-span.result c.made_beside.result.0 span.0 (omega (arith, long, span.1))
    (λ left. span.2 (omega (arith, long, left))) c.made_beside.ensures.made
