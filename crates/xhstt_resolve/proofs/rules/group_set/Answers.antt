-- The table is that of the instance.
use Rattle.xhstt_resolve.proofs.StepsLemmas.{if_ok_same}
use Rattle.xhstt_resolve.proofs.TablesLemmas.{time_set-at}
use Rattle.xhstt_resolve.proofs.rules.group_set.Goals as goal

pub returns : goal.returns
returns c =
    if_ok_same c.group_set.result (time_set-at c.args.lookup.now.instance.now c.args.lookup.now.tables.times
    c.requires.tables.times c.args.group.now.id) c.group_set.ensures
