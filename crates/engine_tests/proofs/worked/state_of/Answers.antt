-- A number with an instance is that of a solution.
use Rattle.xhstt_completion.proofs.Resolved.{solution_there}
use Rattle.engine_tests.proofs.worked.state_of.Goals as goal

pub solution-requires-clause-there : goal.solution-requires-clause-there
solution-requires-clause-there c =
    solution_there c.args.worked.now.archive c.args.worked.now.resolved c.args.number c.args.inst.now
    c.requires.resolved c.requires.instance
