-- Each step's answer leads to the reading, as by `read`.
use Rattle.std.proofs.Common.{sym, subst}
use Rattle.archive_reading.specs.Steps.{IsStopped, IsUnread}
use Rattle.archive_reading.proofs.FewLemmas.{few}
use Rattle.archive_reading.proofs.OnlyLemmas.{passed, read_only, unread_resolved, unread_tree}
use Rattle.archive_reading.proofs.ReadingLemmas.{resolve-stopped}
use Rattle.archive_reading.proofs.ReadyLemmas.{ready}
use Rattle.archive_reading.proofs.reading.read_slice.Goals as goal

pub resolve-requires-clause-few : goal.resolve-requires-clause-few
resolve-requires-clause-few c = few c.args.bytes.now c.in_ok-archive.archive c.in_ok-archive.ensures.tree c.requires

pub returns-in-Ok-clause-ready : goal.returns-in-Ok-clause-ready
returns-in-Ok-clause-ready c =
    ready c.in_ok-archive.archive c.in-Ok.resolved c.in-Ok.ensures.exact c.in_ok-archive.ensures.formed
    (few c.args.bytes.now c.in_ok-archive.archive c.in_ok-archive.ensures.tree c.requires)

pub returns-in-Err-clause-stopped : goal.returns-in-Err-clause-stopped
returns-in-Err-clause-stopped c =
    subst (IsStopped c.args.bytes.now) (sym c.unresolved.ensures)
    (resolve-stopped c.args.bytes.now c.in_ok-archive.archive c.in-Err.fault c.requires c.in_ok-archive.ensures.tree
    c.in-Err.ensures.fault)

pub returns-in_err-archive-clause-none : goal.returns-in_err-archive-clause-none
returns-in_err-archive-clause-none c =
    let u = c.in_err-archive.field-0.0 in
    passed c.from_residual.result u (IsUnread c.args.bytes.now) c.from_residual.ensures.1
    (unread_tree c.args.bytes.now u c.requires c.in_err-archive.ensures.none)

pub returns-in-Ok-clause-only : goal.returns-in-Ok-clause-only
returns-in-Ok-clause-only c =
    read_only c.args.bytes.now c.in_ok-archive.archive c.in-Ok.resolved c.requires c.in_ok-archive.ensures.sound
    c.in_ok-archive.ensures.only c.in-Ok.ensures.exact

pub returns-in-Err-clause-none : goal.returns-in-Err-clause-none
returns-in-Err-clause-none c =
    subst (IsUnread c.args.bytes.now) (sym c.unresolved.ensures)
    (unread_resolved c.args.bytes.now c.in_ok-archive.archive c.in-Err.fault c.requires c.in_ok-archive.ensures.only
    c.in-Err.ensures.fault)
