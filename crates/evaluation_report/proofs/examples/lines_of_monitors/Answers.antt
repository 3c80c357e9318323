-- Both sides compute.
use Rattle.std.proofs.Common.{refl}
use Rattle.std.specs.Fmt.{digits}
use Rattle.evaluation_report.proofs.examples.lines_of_monitors.Goals as goal

pub returns : goal.returns
unfolding digits
returns c = record {
  first_event = refl;
  second_event = refl;
  first_place = refl;
  second_place = refl;
  first_resource = refl;
  second_resource = refl;
  soft = refl;
  group = refl;
  pair = refl;
  detached = refl;
}
