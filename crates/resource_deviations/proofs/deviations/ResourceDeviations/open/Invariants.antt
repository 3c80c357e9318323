-- The tasks so far are added up.
use Rattle.std.proofs.Common.{take}
use Rattle.resource_deviations.specs.Filled.{IsFilled}
use Rattle.resource_deviations.proofs.deviations.ResourceDeviations.open.Given as goal

abbrev pub invariant-loop-duty : goal.invariant-loop-duty
invariant-loop-duty l = IsFilled l.inst (take l.duty-index l.duties) l.rows.of.items l.rows.count l.table l.workloads.items
