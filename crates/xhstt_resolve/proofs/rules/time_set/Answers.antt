-- The table is that of the instance.
use Rattle.xhstt_resolve.proofs.StepsLemmas.{if_ok_same}
use Rattle.xhstt_resolve.proofs.TablesLemmas.{time_set-listed}
use Rattle.xhstt_resolve.proofs.rules.time_set.Goals as goal

pub returns : goal.returns
returns c =
    if_ok_same c.set.result (time_set-listed c.args.lookup.now.instance.now c.args.lookup.now.tables.times
    c.requires.tables.times c.args.groups.now c.args.times.now) c.set.ensures
