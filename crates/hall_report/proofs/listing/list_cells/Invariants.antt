use Rattle.std.proofs.Common.{◌≡◌, ◌++◌, ◌+◌, map, take}
use Rattle.khe_base.specs.IdSet.{has_member}
use Rattle.hall_report.specs.Demands.{chosen}
use Rattle.hall_report.specs.Kept.{cell_demand}
use Rattle.hall_report.proofs.listing.list_cells.Given as goal

abbrev pub invariant-loop-more : goal.invariant-loop-more
invariant-loop-more l = l.list ≡ l.fn.list ++ chosen (λ i. has_member l.marks (l.first + i)) 0
    (map (cell_demand l.times) (take l.more l.cells))
