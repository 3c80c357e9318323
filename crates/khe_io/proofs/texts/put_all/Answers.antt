-- Each write takes a front of the rest.
use Rattle.std.proofs.Common.{◌∙◌, rules, ◌<◌, length}
use Rattle.khe_io.proofs.Writing.{Took-step, filled}
use Rattle.khe_io.proofs.texts.put_all.Goals as goal

pub loop-rest-preserved : goal.loop-rest-preserved
loop-rest-preserved g c = record {
  split = Took-step _ _ _ _ _ _ _ c.loop-rest.invariant.split.1 c.loop-rest.invariant.split.2
      c.in_ok-count.ensures.took;
  faultless = c.in_ok-count.ensures.faultless ∙ c.loop-rest.invariant.faultless;
  untouched = λ empty.
      let more : 0 < length c.loop-rest.rest.now = search rules in
      absurd (filled _ _ _ c.loop-rest.invariant.split.1 more empty);
}
