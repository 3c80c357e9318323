-- The line is a comment without hyphens.
use Rattle.repair_run.proofs.LineLaws.{repair_read, solve_read}
use Rattle.repair_run.proofs.laws.a_line_is_read_as_nothing.Goals as goal

pub returns-clause-repaired : goal.returns-clause-repaired
returns-clause-repaired c = repair_read

pub returns-clause-solved : goal.returns-clause-solved
returns-clause-solved c = solve_read
