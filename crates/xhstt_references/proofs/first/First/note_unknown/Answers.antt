-- A reference that has no number is noted.
use Rattle.std.proofs.Common.{◌∙◌, ap, sym, not}
use Rattle.std.specs.Option.{is_some}
use Rattle.xhstt_references.proofs.UnknownLemmas.{known, not_known}
use Rattle.xhstt_references.proofs.first.First.note_unknown.Goals as goal

pub returns-then-is_none : goal.returns-then-is_none
returns-then-is_none c = c.note.ensures ∙ not_known c.args.self.now.at c.args.names.now c.args.reference.now
    (sym (ap is_some c.number.ensures) ∙ c.is_none.ensures ∙ ap not c.if-is_none.true)

pub returns-else-is_none : goal.returns-else-is_none
returns-else-is_none c = known c.args.self.now.at c.args.names.now c.args.reference.now
    (sym (ap is_some c.number.ensures) ∙ c.is_none.ensures ∙ ap not c.if-is_none.false)
