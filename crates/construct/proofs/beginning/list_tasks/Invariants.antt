-- What is listed so far, and what the events from here on will give, is the whole.
use Rattle.std.proofs.Common.{◌≡◌, ◌++◌}
use Rattle.khe_told.specs.Lists.{tasks_in}
use Rattle.construct.proofs.BeginLaws.{from_on}
use Rattle.construct.specs.Begun.{begun_slots}
use Rattle.construct.proofs.beginning.list_tasks.Given as goal

abbrev pub invariant-loop-number : goal.invariant-loop-number
invariant-loop-number l = l.tasks ++ tasks_in (from_on l.inst l.number) ≡ tasks_in (begun_slots l.inst)
