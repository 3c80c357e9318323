-- What is found from here on is what is found at all.
use Rattle.std.proofs.Common.{◌≡◌, ◌+◌, ◌-◌}
use Rattle.std.specs.List.{find, range_with_len}
use Rattle.construct.specs.Cuts.{allows}
use Rattle.construct.proofs.bounds.least_amount.Given as goal

abbrev pub invariant-loop-before : goal.invariant-loop-before
invariant-loop-before l =
    find (allows l.bounds l.duration) (range_with_len (l.before + 1) (l.duration - l.before))
    ≡ find (allows l.bounds l.duration) (range_with_len 1 l.duration)
