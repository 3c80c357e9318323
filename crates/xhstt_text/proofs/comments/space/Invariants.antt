use Rattle.std.proofs.Common.{◌≡◌, ◌≤◌, [], List, length}
use Rattle.xhstt_text.specs.Machine.{Region, phase_of, run}
use Rattle.xhstt_text.specs.Reading.{read_of}
use Rattle.xhstt_text.specs.declared.tree.Attribute.{Attribute}
use Rattle.xhstt_text.specs.declared.tree.Node.{Node}
use Rattle.xhstt_text.proofs.comments.space.Given as goal

abbrev pub invariant-space : goal.invariant-space
invariant-space l = record {
  follows : (place : Region) (nodes : List Node) (rows : List Attribute)
      → run (phase_of place) (read_of [] nodes rows) l.fn.from.at l.fn.from.rest.now
      ≡ run (phase_of place) (read_of [] nodes rows) l.here.at l.here.rest.now;
  place : l.fn.from.at ≤ l.here.at;
}

abbrev pub decreases-space : goal.decreases-space
decreases-space l = length l.here.rest.now
