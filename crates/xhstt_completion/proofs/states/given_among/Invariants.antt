-- One that is left is given for the role, if any is.
use Rattle.std.proofs.Common.{◌≡◌, drop}
use Rattle.xhstt_completion.specs.Completed.{given_for}
use Rattle.xhstt_completion.proofs.states.given_among.Given as goal

abbrev pub invariant-loop-number : goal.invariant-loop-number
invariant-loop-number l = given_for l._inst (drop l.number l.given) l.role ≡ given_for l._inst l.given l.role
