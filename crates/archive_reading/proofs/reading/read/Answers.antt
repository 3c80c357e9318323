-- Each step's answer leads to the reading.
use Rattle.std.proofs.Common.{ℕ, ◌≡◌, List, Ok, subst, sym}
use Rattle.archive_reading.specs.Steps.{IsStopped, IsTree, IsUnread, IsUnshaped}
use Rattle.archive_reading.proofs.FewLemmas.{few}
use Rattle.archive_reading.proofs.OnlyLemmas.{passed, read_only, unread_resolved, unread_tree}
use Rattle.archive_reading.proofs.ReadingLemmas.{resolve-stopped}
use Rattle.archive_reading.proofs.ReadyLemmas.{ready}
use Rattle.archive_reading.proofs.reading.read.Goals as goal
use Rattle.xhstt_shape.specs.Shape.{shape_of}
use Rattle.xhstt_text.specs.Document.{Spelled}
use Rattle.xhstt_text.specs.FirstFault.{IsFirstFault}
use Rattle.xhstt_text.specs.Forest.{Forest}

pub resolve-requires-clause-few : goal.resolve-requires-clause-few
resolve-requires-clause-few c =
    few c.args.bytes c.in_ok-archive.archive (subst (λ bytes. IsTree bytes c.in_ok-archive.archive) c.as_slice.ensures
    c.in_ok-archive.ensures.tree) c.requires

pub returns-in-Ok-clause-ready : goal.returns-in-Ok-clause-ready
returns-in-Ok-clause-ready c =
    ready c.in_ok-archive.archive c.in-Ok.resolved c.in-Ok.ensures.exact c.in_ok-archive.ensures.formed
    (few c.args.bytes c.in_ok-archive.archive (subst (λ bytes. IsTree bytes c.in_ok-archive.archive) c.as_slice.ensures
    c.in_ok-archive.ensures.tree) c.requires)

pub returns-in-Err-clause-stopped : goal.returns-in-Err-clause-stopped
returns-in-Err-clause-stopped c =
    subst (IsStopped c.args.bytes) (sym c.unresolved.ensures)
    (resolve-stopped c.args.bytes c.in_ok-archive.archive c.in-Err.fault c.requires
    (subst (λ bytes. IsTree bytes c.in_ok-archive.archive) c.as_slice.ensures c.in_ok-archive.ensures.tree)
    c.in-Err.ensures.fault)

pub returns-in_err-archive-clause-none : goal.returns-in_err-archive-clause-none
returns-in_err-archive-clause-none c =
    let u = c.in_err-archive.field-0.0 in
    passed c.from_residual.result u (IsUnread c.args.bytes) c.from_residual.ensures.1
    (unread_tree c.args.bytes u c.requires (subst (λ bytes. IsUnshaped bytes u) c.as_slice.ensures
    c.in_err-archive.ensures.none))

pub returns-in-Ok-clause-only : goal.returns-in-Ok-clause-only
returns-in-Ok-clause-only c =
    let a = c.in_ok-archive.archive in
    read_only c.args.bytes a c.in-Ok.resolved c.requires
    (subst (λ (bytes : List ℕ). (kind at : ℕ) → IsFirstFault bytes kind at → ⊥) c.as_slice.ensures
    c.in_ok-archive.ensures.sound)
    (subst (λ (bytes : List ℕ). (t : Forest) → Spelled bytes t → shape_of t ≡ Ok a) c.as_slice.ensures
    c.in_ok-archive.ensures.only) c.in-Ok.ensures.exact

pub returns-in-Err-clause-none : goal.returns-in-Err-clause-none
returns-in-Err-clause-none c =
    let a = c.in_ok-archive.archive in
    subst (IsUnread c.args.bytes) (sym c.unresolved.ensures)
    (unread_resolved c.args.bytes a c.in-Err.fault c.requires
    (subst (λ (bytes : List ℕ). (t : Forest) → Spelled bytes t → shape_of t ≡ Ok a) c.as_slice.ensures
    c.in_ok-archive.ensures.only) c.in-Err.ensures.fault)
