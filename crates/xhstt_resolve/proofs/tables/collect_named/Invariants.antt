-- What is left goes on from what is collected.
use Rattle.std.proofs.Common.{◌≡◌, drop}
use Rattle.std.specs.List.{fold}
use Rattle.xhstt_resolve.specs.Members.{numbers_of}
use Rattle.xhstt_resolve.proofs.tables.collect_named.Given as goal

abbrev pub invariant-loop-reference : goal.invariant-loop-reference
invariant-loop-reference g l =
    fold g.C.Collect.added l.into (numbers_of l.names (drop l.reference-index l.references))
    ≡ fold g.C.Collect.added l.fn.into (numbers_of l.names l.references)
