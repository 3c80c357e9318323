-- The tree is the only one that the bytes spell.
use Rattle.calling_examples.proofs.reading.archive_of.Goals as goal
use Rattle.xhstt_text.specs.FlatTable.{root_forest}

pub returns-clause-archive : goal.returns-clause-archive
returns-clause-archive c = record {
  tree = root_forest c.in_ok-tree.tree;
  spelled = c.in_ok-tree.ensures.spelled;
  only = c.in_ok-tree.ensures.one_forest;
  shape = c.in_ok-archive.ensures.told;
}
