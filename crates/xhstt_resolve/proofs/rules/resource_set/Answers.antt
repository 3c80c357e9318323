-- The table is that of the instance.
use Rattle.xhstt_resolve.proofs.StepsLemmas.{if_ok_same}
use Rattle.xhstt_resolve.proofs.TablesLemmas.{resource_set-listed}
use Rattle.xhstt_resolve.proofs.rules.resource_set.Goals as goal

pub returns : goal.returns
returns c =
    if_ok_same c.set.result (resource_set-listed c.args.lookup.now.instance.now c.args.lookup.now.tables.resources
    c.requires.tables.resources c.args.groups.now c.args.resources.now) c.set.ensures
