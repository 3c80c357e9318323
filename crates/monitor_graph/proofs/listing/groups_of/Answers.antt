-- One group number more.
use Rattle.std.proofs.Common.{arith}
use Rattle.monitor_graph.proofs.ListedLaws.{groups_next}
use Rattle.monitor_graph.proofs.listing.groups_of.Goals as goal

pub loop-number-preserved : goal.loop-number-preserved
loop-number-preserved c =
    let many = c.facts.ensures.valid.numbers in
    groups_next _ _ _ c.loop-number.number c.args.groups.now.groups (omega (arith, many, c.loop-number-test.true))
    c.in_ok-add_group.ensures c.loop-number.invariant
