-- Both sides compute.
use Rattle.std.proofs.Common.{refl}
use Rattle.std.specs.Fmt.{digits}
use Rattle.evaluation_report.proofs.examples.lines_of_solutions.Goals as goal

pub returns : goal.returns
unfolding digits
returns c = record { archive = refl; solution = refl; escaped = refl; total = refl; invalid = refl }
