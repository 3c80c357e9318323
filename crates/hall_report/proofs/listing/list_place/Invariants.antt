use Rattle.std.proofs.Common.{◌≡◌, ◌++◌, map}
use Rattle.std.specs.List.{filter, range_with_len}
use Rattle.hall_report.specs.Listing.{is_marked}
use Rattle.hall_report.specs.Units.{unit_at}
use Rattle.hall_report.specs.declared.demand.Demand.TheVariants.{Task}
use Rattle.hall_report.proofs.listing.list_place.Given as goal

abbrev pub invariant-loop-offset : goal.invariant-loop-offset
invariant-loop-offset l =
    (l.list ≡ l.fn.list ++ filter (is_marked l.units l.marks)
    (map (λ o. Task l.meet l.place o) (range_with_len 0 l.offset)))
    × (l.unit ≡ unit_at l.units.next.items l.units.held.items l.meet.0 l.offset)
