-- The members were made of the items.
use Rattle.std.proofs.Common.{◌∙◌}
use Rattle.xhstt_resolve.proofs.TablesLemmas.{IsTableOf-made}
use Rattle.xhstt_resolve.proofs.tables.table_of.Goals as goal

pub returns : goal.returns
returns g c =
    IsTableOf-made g.T.Grouped.groups c.args.items.now
    (record { names = c.args.names; group_names = c.args.group_names; members = c.in_ok-members.members })
    c.requires.few c.requires.few_groups c.requires.same (c.in_ok-members.ensures ∙ c.in_ok-lists.ensures)
