-- What the meets so far led to, and what those from here on will, is the whole.
use Rattle.std.proofs.Common.{◌≡◌, [], drop}
use Rattle.construct.specs.Constructed.{timed}
use Rattle.construct.proofs.constructing.assign_all.Given as goal

abbrev pub invariant-loop-meet : goal.invariant-loop-meet
invariant-loop-meet g l = record {
  rest : timed l.fn.engine.parts l.engine.state (drop l.meet-index l.meets)
      ≡ timed l.fn.engine.parts l.fn.engine.state l.meets;
  parts : l.engine.parts ≡ l.fn.engine.parts;
  marks : l.engine.saved ≡ [];
}
