-- What is listed so far, and what the slots from here on will give, is the whole.
use Rattle.std.proofs.Common.{◌≡◌, ◌++◌}
use Rattle.khe_told.specs.Lists.{meets_in}
use Rattle.construct.proofs.BeginLaws.{slots_on}
use Rattle.construct.specs.Begun.{begun_of}
use Rattle.construct.proofs.beginning.add_meets.Given as goal

abbrev pub invariant-loop-number : goal.invariant-loop-number
invariant-loop-number l =
    l.meets ++ meets_in (slots_on l.event.0 l.info l.amount l.number)
    ≡ l.fn.meets ++ meets_in (begun_of l.event.0 l.info l.amount)
