-- What is left goes on from what is collected.
use Rattle.std.proofs.Common.{◌≡◌, drop}
use Rattle.std.specs.List.{fold}
use Rattle.xhstt_resolve.proofs.grouped_sets.add_all.Given as goal

abbrev pub invariant-loop-number : goal.invariant-loop-number
invariant-loop-number g l = fold g.C.Collect.added l.into (drop l.number-index l.numbers)
    ≡ fold g.C.Collect.added l.fn.into l.numbers
