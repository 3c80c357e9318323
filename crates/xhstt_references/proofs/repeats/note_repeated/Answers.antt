-- A name that is not new is noted.
use Rattle.std.proofs.Common.{◌∙◌}
use Rattle.xhstt_references.proofs.RepeatsLemmas.{noted_old, noted_new}
use Rattle.xhstt_references.proofs.repeats.note_repeated.Goals as goal

pub returns-then-not-branch-clause-first : goal.returns-then-not-branch-clause-first
returns-then-not-branch-clause-first c = c.note.ensures
    ∙ noted_old _ _ _ _ c.in_ok-insert.ensures.new c.if-not-branch.true

pub returns-else-not-branch-clause-first : goal.returns-else-not-branch-clause-first
returns-else-not-branch-clause-first c = noted_new _ _ _ _ c.in_ok-insert.ensures.new c.if-not-branch.false
