-- The table is that of the instance.
use Rattle.std.proofs.Common.{ap}
use Rattle.xhstt_resolve.specs.Members.{first_mentions}
use Rattle.xhstt_resolve.proofs.StepsLemmas.{if_ok_same}
use Rattle.xhstt_resolve.proofs.TablesLemmas.{listed-at}
use Rattle.xhstt_resolve.proofs.points.events_of.Goals as goal

pub returns : goal.returns
returns c =
    if_ok_same c.first_mentions.result (ap first_mentions
    (listed-at c.args.lookup.now.tables.events c.requires.tables.events c.args.groups.now c.args.events.now))
    c.first_mentions.ensures.numbers
