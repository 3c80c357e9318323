-- What is listed so far, and what the events from here on will give, is the whole.
use Rattle.std.proofs.Common.{◌≡◌, ◌++◌}
use Rattle.khe_told.specs.Lists.{meets_in}
use Rattle.construct.proofs.BeginLaws.{from_on}
use Rattle.construct.specs.Begun.{begun_slots}
use Rattle.construct.proofs.beginning.list_meets.Given as goal

abbrev pub invariant-loop-number : goal.invariant-loop-number
invariant-loop-number l = l.meets ++ meets_in (from_on l.inst l.number) ≡ meets_in (begun_slots l.inst)
