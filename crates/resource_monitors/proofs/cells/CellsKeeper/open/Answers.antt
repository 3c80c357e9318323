use Rattle.std.proofs.Common.{◌∙◌, arith}
use Rattle.timetables.specs.Counts.{no_counts}
use Rattle.resource_monitors.proofs.OpenLaws.{kept_opened}
use Rattle.resource_monitors.proofs.cells.CellsKeeper.open.Goals as goal

pub open-requires-2 : goal.open-requires-2
open-requires-2 g c =
    let few = c.facts.ensures.limits.times in
    let times = c.times.ensures in
    omega (arith, few, times)

pub returns : goal.returns
returns g c = kept_opened g.K.CellKinds.serves_kind c.args.inst.now _ _ _
    (c.in_ok-table.ensures ∙ (λ i. no_counts (c.resources.ensures i) (c.times.ensures i))) c.in_ok-sets.ensures
    c.in_ok-lists.ensures
