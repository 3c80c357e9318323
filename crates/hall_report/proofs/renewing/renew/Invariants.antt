use Rattle.std.proofs.Common.{◌≡◌}
use Rattle.khe_told.specs.Slots.{slot_at}
use Rattle.hall_report.specs.Kept.{number_of}
use Rattle.hall_report.specs.Picks.{domain_in}
use Rattle.hall_report.specs.Renewing.{IsRenewed}
use Rattle.hall_report.specs.Units.{unit_at}
use Rattle.hall_report.proofs.renewing.renew.Given as goal

abbrev pub invariant-loop-offset : goal.invariant-loop-offset
invariant-loop-offset l =
    (l.unit ≡ unit_at l.units.next.items l.units.held.items l.meet.0 l.offset)
    × IsRenewed l.fn.matching l.matching (number_of l.units l.meet.0)
    (domain_in l.choices.inst.now.events l.choices.picks.now.starts.items l.choices.picks.now.resources.items
    (slot_at l.choices.told.now l.meet.0)) l.from l.end
    l.offset
