-- Both sides compute.
use Rattle.std.proofs.Common.{refl}
use Rattle.std.specs.Fmt.{digits}
use Rattle.evaluation_report.specs.Demands.{demand_line}
use Rattle.evaluation_report.proofs.examples.lines_of_demands.Goals as goal

pub returns : goal.returns
unfolding digits demand_line
returns c = record { deficit = refl; task = refl; unavailable = refl }
