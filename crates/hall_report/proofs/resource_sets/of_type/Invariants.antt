use Rattle.std.proofs.Common.{◌≡◌, length}
use Rattle.hall_report.proofs.SetLaws.{IsUpTo}
use Rattle.hall_report.specs.Opening.{is_of_type}
use Rattle.hall_report.proofs.resource_sets.of_type.Given as goal

abbrev pub invariant-loop-resource : goal.invariant-loop-resource
invariant-loop-resource l = (length l.set ≡ length l.inst.resources)
    × IsUpTo (is_of_type l.inst l.rtype) l.resource l.set
