use Rattle.std.proofs.Common.{ℕ, List, map, length}
use Rattle.xhstt_shape.specs.declared.words.Tag.{Tag}
use Rattle.xhstt_shape.specs.declared.words.Tag.TheVariants as tag
use Rattle.xhstt_writer.specs.Archives as spec
use Rattle.xhstt_writer.specs.Trees.{Trees, filled}
use Rattle.xhstt_writer.specs.Parts.{put_all}
use Rattle.xhstt_writer.specs.Output.{Aim}
use Rattle.xhstt_writer.proofs.solutions.given_items.Given as goal

abbrev pub invariant-loop-given : goal.invariant-loop-given
invariant-loop-given g l =
    (more : Trees) (t : Tag) (rest : List ℕ) (whole : Aim)
    → g.O.Output.said l.fn.out (filled (put_all tag.Resource (map spec.given l.fn.givens) more) l.fn.opened t rest) whole
    → g.O.Output.said l.out (filled (put_all tag.Resource (map spec.given l.rest) more) l.still t rest) whole

abbrev pub decreases-loop-given : goal.decreases-loop-given
decreases-loop-given g l = length l.rest
