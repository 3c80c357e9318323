use Rattle.std.proofs.Common.{ℕ, List, drop}
use Rattle.xhstt_shape.specs.declared.words.Tag.{Tag}
use Rattle.xhstt_writer.specs.Trees.{filled}
use Rattle.xhstt_writer.specs.Parts.{each}
use Rattle.xhstt_writer.specs.Output.{Aim}
use Rattle.xhstt_writer.proofs.lists.tagged_items.Given as goal

abbrev pub invariant-loop-item : goal.invariant-loop-item
invariant-loop-item g l =
    (t : Tag) (rest : List ℕ) (whole : Aim) → g.O.Output.said l.fn.out
    (filled (each g.T.Tagged.own_tag g.T.Write.body l.items) l.fn.opened t rest) whole
    → g.O.Output.said l.out (filled (each g.T.Tagged.own_tag g.T.Write.body (drop l.item-index l.items)) l.still t rest)
    whole
