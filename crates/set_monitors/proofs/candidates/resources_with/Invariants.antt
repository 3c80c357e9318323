use Rattle.set_monitors.specs.Candidates.{AreTyped}
use Rattle.set_monitors.proofs.candidates.resources_with.Given as goal

abbrev pub invariant-loop-r : goal.invariant-loop-r
invariant-loop-r l = AreTyped l.inst l.types l.r l.numbers
