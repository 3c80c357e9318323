use Rattle.std.proofs.Common.{length}
use Rattle.resource_monitors.proofs.shifts.shifts_of.Goals as goal

pub returns-in_default-clause-second : goal.returns-in_default-clause-second
returns-in_default-clause-second c = c.no_shift.ensures.below (length c.args.inst.now.times)
