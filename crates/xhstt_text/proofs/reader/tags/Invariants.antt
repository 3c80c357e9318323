use Rattle.std.proofs.Common.{◌≡◌, ◌≤◌, length}
use Rattle.xhstt_text.specs.Machine.{outcome_of, run, resume}
use Rattle.xhstt_text.specs.Reading.{read_of, frames_of}
use Rattle.xhstt_text.proofs.reader.tags.Given as goal

abbrev pub invariant-tags : goal.invariant-tags
invariant-tags l = record {
  follows : outcome_of l.fn.bytes ≡ run (resume (frames_of l.table.stack.items))
      (read_of (frames_of l.table.stack.items) l.table.nodes.items l.table.attributes.items) l.here.at l.here.rest.now;
  count : length l.table.nodes.items ≤ l.here.at;
  few : length l.table.attributes.items ≤ l.here.at;
}

abbrev pub decreases-tags : goal.decreases-tags
decreases-tags l = length l.here.rest.now
