-- What is listed so far, and what the rest will give, is the whole.
use Rattle.std.proofs.Common.{◌≡◌, ◌++◌, drop}
use Rattle.khe_told.specs.Lists.{tasks_in}
use Rattle.khe_engine.proofs.listing.list_tasks.Given as goal

abbrev pub invariant-loop-number : goal.invariant-loop-number
invariant-loop-number l = l.tasks ++ tasks_in (drop l.number l.solution.slots) ≡ tasks_in l.solution.slots
