use Rattle.std.proofs.Common.{◌≤◌, ◌+◌}
use Rattle.khe_told.specs.Slots.{slot_at}
use Rattle.hall_report.specs.Picks.{domain_in}
use Rattle.hall_report.specs.Renewing.{IsRenewed}
use Rattle.hall_report.proofs.renewing.renew_unit.Given as goal

abbrev pub invariant-loop-place : goal.invariant-loop-place
invariant-loop-place l =
    (l.from ≤ l.place)
    × IsRenewed l.fn.matching l.matching (λ k o. l.first + k)
    (λ k o. domain_in l.choices.inst.now.events l.choices.picks.now.starts.items l.choices.picks.now.resources.items
    (slot_at l.choices.told.now l.meet.0) k
    l.offset) l.from l.place 1
