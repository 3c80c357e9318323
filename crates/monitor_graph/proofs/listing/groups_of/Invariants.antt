-- What is listed so far, and what the rest will give, is the whole.
use Rattle.std.proofs.Common.{◌≡◌, ◌++◌, drop}
use Rattle.monitor_graph.specs.Listed.{groups_from}
use Rattle.monitor_graph.proofs.listing.groups_of.Given as goal

abbrev pub invariant-loop-number : goal.invariant-loop-number
invariant-loop-number l = l.listed ++ groups_from l.number (drop l.number l.groups.groups)
    ≡ groups_from 0 l.groups.groups
