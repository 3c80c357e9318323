use Rattle.std.proofs.Common.{◌≡◌, ◌++◌, map, take}
use Rattle.khe_instance.specs.declared.parts.Place.{Place}
use Rattle.hall_report.proofs.resource_sets.push_types.Given as goal

abbrev pub invariant-loop-place : goal.invariant-loop-place
invariant-loop-place l = l.entries.items ≡ l.fn.entries.items
    ++ map (λ (z : Place). z.rtype) (take l.place-index l.places)
