-- What a resource's row has added up is what the resource has.
use Rattle.std.proofs.Common.{◌∙◌, slice_index}
use Rattle.khe_instance.specs.Deviation.{measured}
use Rattle.timetables.specs.Counts.{row_of}
use Rattle.resource_deviations.proofs.deviations.ResourceDeviations.of_rule.Goals as goal

pub returns : goal.returns
returns c =
    let self = c.args.self.now in
    c.of_row.ensures
    ∙ (λ i. measured self.inst.now c.args.rule.now (slice_index (row_of self.table (c.row.ensures i)))
    (slice_index self.workloads.items (c.row.ensures i)))
