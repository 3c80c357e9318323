-- What is left goes on from what is collected.
use Rattle.std.proofs.Common.{◌≡◌, drop}
use Rattle.std.specs.List.{fold, flat_map}
use Rattle.xhstt_resolve.specs.Tables.{members_numbered}
use Rattle.xhstt_resolve.proofs.tables.Table.collect_members.Given as goal

abbrev pub invariant-loop-group : goal.invariant-loop-group
invariant-loop-group g l =
    fold g.C.Collect.added l.into (flat_map (members_numbered l.self) (drop l.group-index l.groups))
    ≡ fold g.C.Collect.added l.fn.into (flat_map (members_numbered l.self) l.groups)
