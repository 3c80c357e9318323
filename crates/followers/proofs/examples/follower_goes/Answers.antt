-- Both sides compute.
use Rattle.std.proofs.Common.{refl}
use Rattle.khe_solution.specs.Editing as meets
use Rattle.khe_engine.specs.States as engine
use Rattle.followers.specs.Tables.{base_refusal, edited, refusal}
use Rattle.followers.proofs.examples.follower_goes.Goals as goal

pub returns : goal.returns
unfolding base_refusal refusal edited engine.edited meets.edited
returns c = record {
  tie = refl;
  assign = refl;
  follower = refl;
  leader = refl;
  starts = refl;
  untie = refl;
  unbound = refl;
  moved = refl;
  long = refl;
  none = refl;
}
