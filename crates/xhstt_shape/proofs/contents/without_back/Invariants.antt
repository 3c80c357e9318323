-- What is left says what the whole says.
use Rattle.std.proofs.Common.{◌≡◌, length}
use Rattle.xhstt_shape.specs.Contents.{without_back}
use Rattle.xhstt_shape.proofs.contents.without_back.Given as goal

abbrev pub invariant-loop-rest : goal.invariant-loop-rest
invariant-loop-rest l = without_back l.rest ≡ without_back l.initial.rest

abbrev pub decreases-loop-rest : goal.decreases-loop-rest
decreases-loop-rest l = length l.rest
