-- What was noted so far, and then what the items that are left give, is what all give.
use Rattle.std.proofs.Common.{◌≡◌, drop}
use Rattle.std.specs.List.{flat_map}
use Rattle.xhstt_references.specs.First.{first_of}
use Rattle.xhstt_references.proofs.looking_up.note_unknown_in.Given as goal

abbrev pub invariant-loop-item : goal.invariant-loop-item
invariant-loop-item g l =
    first_of l.first.at (flat_map (g.T.Refer.unknown l.directory) (drop l.item-index l.items))
    ≡ first_of l.fn.first.at (flat_map (g.T.Refer.unknown l.directory) l.items)
