-- What is listed so far, and what the rest will give, is the whole.
use Rattle.std.proofs.Common.{◌≡◌, ◌++◌, drop}
use Rattle.khe_told.specs.Lists.{meets_in}
use Rattle.khe_engine.proofs.listing.list_meets.Given as goal

abbrev pub invariant-loop-number : goal.invariant-loop-number
invariant-loop-number l = l.meets ++ meets_in (drop l.number l.solution.slots) ≡ meets_in l.solution.slots
