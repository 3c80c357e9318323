-- The names are those of the instance.
use Rattle.std.proofs.Common.{ap, ◌<◌, ◌^◌, length, arith}
use Rattle.xhstt_resolve.specs.Members.{first_mentions, numbers_of}
use Rattle.xhstt_resolve.proofs.StepsLemmas.{if_ok_same}
use Rattle.xhstt_resolve.proofs.TablesLemmas.{groups_few}
use Rattle.xhstt_resolve.proofs.points.groups_of.Goals as goal

pub first_named-requires : goal.first_named-requires
first_named-requires c =
    let few : length c.args.lookup.now.instance.now.event_groups < 2 ^ 32 =
    omega (arith, c.requires.counts.event_groups) in
    groups_few c.args.lookup.now.instance.now c.args.lookup.now.names.now c.requires.names few

pub returns : goal.returns
returns c =
    if_ok_same c.first_named.result (ap (λ ids. first_mentions (numbers_of ids c.args.groups.now))
    c.requires.names.event_groups) c.first_named.ensures
