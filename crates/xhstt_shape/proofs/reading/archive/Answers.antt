-- The archive of a tree without a fault is in form, and well formed where its bytes spell the tree.
use Rattle.xhstt_shape.proofs.InForm.{told-in_form}
use Rattle.xhstt_shape.proofs.WellFormed.{told-well_formed}
use Rattle.xhstt_text.specs.FlatTable.{root_forest}
use Rattle.xhstt_text.specs.Forest.{empty}
use Rattle.xhstt_shape.proofs.reading.archive.Goals as goal

pub returns-clause-in_form : goal.returns-clause-in_form
returns-clause-in_form c = told-in_form c.archive_of.result c.root-root.result c.archive_of.ensures

pub returns-clause-well_formed : goal.returns-clause-well_formed
returns-clause-well_formed c =
    told-well_formed c.archive_of.result c.args.tree.now.bytes.now (root_forest c.args.tree.now) c.root-root.result.info
    c.root-root.result.kids empty c.root-root.ensures c.archive_of.ensures
