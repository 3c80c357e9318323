-- The time is noted where the event would go on beyond the last one.
use Rattle.std.proofs.Common.{◌∙◌}
use Rattle.xhstt_references.proofs.UnknownLemmas.{off_end_noted, off_end_passed}
use Rattle.xhstt_references.proofs.instances.note_time_off_end.Goals as goal

pub returns-then-is_off_end : goal.returns-then-is_off_end
returns-then-is_off_end c = c.note.ensures ∙ off_end_noted c.args.first.now.at c.args.directory.now c.args.duration
    c.args.time.now _ c.is_off_end.ensures c.if-is_off_end.true

pub returns-else-is_off_end : goal.returns-else-is_off_end
returns-else-is_off_end c = off_end_passed c.args.first.now.at c.args.directory.now c.args.duration c.args.time.now _
    c.is_off_end.ensures c.if-is_off_end.false
