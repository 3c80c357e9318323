use Rattle.std.proofs.Common.{◌≡◌, ◌++◌, drop}
use Rattle.std.specs.List.{flat_map}
use Rattle.xhstt_entries.specs.Spelled.{given_of}
use Rattle.xhstt_entries.proofs.entries.givens.Given as goal

-- what is given and what the rest will give is the whole
abbrev pub invariant-loop-duty : goal.invariant-loop-duty
invariant-loop-duty l = l.list ++ flat_map (given_of l.inst) (drop l.duty-index l.duties)
    ≡ flat_map (given_of l.inst) l.duties
