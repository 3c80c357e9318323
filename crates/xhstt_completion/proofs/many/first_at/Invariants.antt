-- The first cause stands at a resource that is left.
use Rattle.std.proofs.Common.{◌≡◌, [], take, drop}
use Rattle.xhstt_completion.specs.Causes.{first_given_cause}
use Rattle.xhstt_completion.proofs.many.first_at.Given as goal

abbrev pub invariant-loop-number : goal.invariant-loop-number
invariant-loop-number l =
    first_given_cause l.inst l.event (take l.number l.given) (drop l.number l.given)
    ≡ first_given_cause l.inst l.event [] l.given
