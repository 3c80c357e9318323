-- The solution that was found has the number.
use Rattle.std.proofs.Common.{sym}
use Rattle.xhstt_completion.proofs.Resolved.{one}
use Rattle.xhstt_completion.proofs.completion.solution.Goals as goal

pub numbered_solution-requires-clause-one : goal.numbered_solution-requires-clause-one
numbered_solution-requires-clause-one c =
    one c.args.archive.now c.args.resolved.now c.requires.resolved c.requires.formed c.args.number _
    (sym c.in-Some.ensures)
