-- What is listed so far, and what the slots from here on will give, is the whole.
use Rattle.std.proofs.Common.{◌≡◌, ◌++◌}
use Rattle.khe_told.specs.Lists.{tasks_in}
use Rattle.construct.proofs.BeginLaws.{slots_on}
use Rattle.construct.specs.Begun.{begun_of}
use Rattle.construct.proofs.beginning.add_tasks.Given as goal

abbrev pub invariant-loop-number : goal.invariant-loop-number
invariant-loop-number l =
    l.tasks ++ tasks_in (slots_on l.fn._event.0 l.info l.amount l.number)
    ≡ l.fn.tasks ++ tasks_in (begun_of l.fn._event.0 l.info l.amount)
