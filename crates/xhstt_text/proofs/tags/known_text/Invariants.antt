use Rattle.std.proofs.Common.{◌∷◌, ◌≡◌, ◌≤◌, ℕ, List, Some, length}
use Rattle.xhstt_text.specs.Machine.{Frame, content, run}
use Rattle.xhstt_text.specs.Reading.{read_of}
use Rattle.xhstt_text.specs.declared.tree.Attribute.{Attribute}
use Rattle.xhstt_text.specs.declared.tree.Node.{Node}
use Rattle.xhstt_text.proofs.tags.known_text.Given as goal

abbrev pub invariant-pieces : goal.invariant-pieces
invariant-pieces l = record {
  follows : (f : Frame) (fs : List Frame) (nodes : List Node) (rows : List Attribute) (place : ℕ)
      → f.node.loose ≡ Some place → run content (read_of (f ∷ fs) nodes rows) l.fn.from.at l.fn.from.rest.now
      ≡ run content (read_of (f ∷ fs) nodes rows) l.here.at l.here.rest.now;
  few : length l.here.rest.now ≤ length l.fn.from.rest.now;
  place : l.fn.from.at ≤ l.here.at;
}

abbrev pub decreases-pieces : goal.decreases-pieces
decreases-pieces l = length l.here.rest.now
