-- The whole of a table is its first element.
use Rattle.xhstt_text.specs.FlatTable.{flat_table}
use Rattle.xhstt_text.proofs.ForestOfTable.{forest-root}
use Rattle.xhstt_text.proofs.tree.Tree.root.Goals as goal

pub returns : goal.returns
returns c = forest-root (flat_table c.args.self.now) c.requires
