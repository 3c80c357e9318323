use Rattle.std.proofs.Common.{refl}
use Rattle.khe_base.specs.declared.limits.TheConstants.{GROUPS}
use Rattle.monitor_graph.proofs.OpenLaws.{opened, opened_groups, opened_room}
use Rattle.monitor_graph.proofs.groups.Groups.open.Goals as goal

pub invariant_of-result : goal.invariant_of-result
invariant_of-result c = (
  opened GROUPS c.args.monitors c.in_ok-no_benches.field-0.items c.in_ok-no_bits.field-0.items refl c.requires
      c.in_ok-no_benches.ensures c.in_ok-no_bits.ensures,
  opened_room GROUPS c.in_ok-no_benches.field-0.items _ c.in_ok-no_benches.ensures,
)

pub returns-clause-groups : goal.returns-clause-groups
returns-clause-groups c = opened_groups GROUPS c.in_ok-no_benches.field-0.items c.in_ok-no_benches.ensures
