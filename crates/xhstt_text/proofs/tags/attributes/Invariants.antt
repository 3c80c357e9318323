use Rattle.std.proofs.Common.{◌≡◌, ◌≤◌, ℕ, List, length}
use Rattle.xhstt_text.specs.Machine.{Frame, run, valued}
use Rattle.xhstt_text.specs.Reading.{read_of, bare, Holds}
use Rattle.xhstt_text.specs.declared.tree.Node.{Node}
use Rattle.xhstt_text.proofs.FollowAttributes.{named_tag}
use Rattle.xhstt_text.proofs.tags.attributes.Given as goal

abbrev pub invariant-attributes : goal.invariant-attributes
invariant-attributes l = record {
  follows : (known : List (List ℕ)) × Holds l.names known
      × ((frames : List Frame) (nodes : List Node) (place : ℕ) (tag : List ℕ) (first : ℕ)
      → run (valued (bare place tag first)) (read_of frames nodes l.fn.rows.items) l.fn.from.at l.fn.from.rest.now
      ≡ run (valued (named_tag place tag first known)) (read_of frames nodes l.rows.items) l.here.at l.here.rest.now);
  onward : length l.here.rest.now ≤ length l.fn.from.rest.now;
  place : l.fn.from.at ≤ l.here.at;
  few : length l.rows.items ≤ l.here.at;
}

abbrev pub decreases-attributes : goal.decreases-attributes
decreases-attributes l = length l.here.rest.now
