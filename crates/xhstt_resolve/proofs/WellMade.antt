-- The parts of an instance without a fault are well made.
use Rattle.std.proofs.Common.{◌≡◌, None}
use Rattle.khe_instance.specs.WellMade.{AreWellMade}
use Rattle.xhstt_references.specs.Faults.{fault_of_instance}
use Rattle.xhstt_resolve.specs.Limits.{limit_fault}
use Rattle.xhstt_resolve.specs.Parts.{parts_of}
use Rattle.xhstt_shape.specs.WellFormed.{IsInstance}
use Rattle.xhstt_resolve.proofs.WellMadeConstraints.{constraints_made}
use Rattle.xhstt_resolve.proofs.WellMadeEvents.{events_made}
use Rattle.xhstt_resolve.proofs.WellMadeFaults.{faultless, within}
use Rattle.xhstt_resolve.proofs.WellMadeIds.{times_distinct, resources_distinct, events_distinct}
use Rattle.xhstt_resolve.proofs.WellMadeLimits.{limits_made}
use Rattle.xhstt_resolve.proofs.WellMadeMonitors.{monitors_made}
use Rattle.xhstt_resolve.proofs.WellMadeParts.{resources_made, groups_made, first_meets_made, unit_made}
use Rattle.xhstt_shape.specs.declared.records.RawInstance.{RawInstance}

pub parts-well-made : (i : RawInstance) → fault_of_instance i ≡ None → limit_fault i ≡ None → IsInstance i
    → AreWellMade (parts_of i)
parts-well-made i none few formed =
    let sound = faultless i none in
    let small = within i few in
    record {
      times_distinct = times_distinct i sound;
      resources_distinct = resources_distinct i sound;
      events_distinct = events_distinct i sound;
      resources = resources_made i sound;
      groups = groups_made i;
      events = events_made i sound formed;
      first_meets = first_meets_made i 0 i.events;
      constraints = constraints_made i sound small formed;
      monitors = monitors_made i formed;
      unit = unit_made i formed;
      limits = limits_made i small;
    }
