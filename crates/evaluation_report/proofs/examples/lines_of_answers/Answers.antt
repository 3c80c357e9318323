-- Both sides compute.
use Rattle.std.proofs.Common.{refl}
use Rattle.std.specs.Fmt.{digits}
use Rattle.evaluation_report.proofs.examples.lines_of_answers.Goals as goal

pub returns : goal.returns
unfolding digits
returns c = record {
  group = refl;
  placed = refl;
  lifted = refl;
  given = refl;
  free = refl;
  done = refl;
  made = refl;
  refused = refl;
}
