use Rattle.std.proofs.Common.{◌≡◌, ◌++◌, map}
use Rattle.std.specs.List.{filter, flat_map, range_with_len}
use Rattle.hall_report.specs.Listing.{is_marked}
use Rattle.hall_report.specs.declared.demand.Demand.TheVariants.{Task}
use Rattle.hall_report.proofs.listing.list_single.Given as goal

abbrev pub invariant-loop-place : goal.invariant-loop-place
invariant-loop-place l =
    l.list ≡ l.fn.list ++ filter (is_marked l.units l.marks)
    (flat_map (λ k. map (λ o. Task l.meet k o) (range_with_len 0 1)) (range_with_len 0 l.place))
