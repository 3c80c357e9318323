-- The monitors so far are in the table.
use Rattle.std.proofs.Common.{length}
use Rattle.khe_instance.specs.ByPlace.{is_at_place}
use Rattle.khe_instance.specs.Listing.{AreTabled}
use Rattle.khe_instance.specs.Lookups.{places_at}
use Rattle.khe_instance.proofs.by_place.monitors_by_place.Given as goal

abbrev pub invariant-loop-number : goal.invariant-loop-number
invariant-loop-number l = AreTabled (is_at_place l.inst.monitors) (length l.inst.events) (places_at l.inst.events) l.number
    l.table
