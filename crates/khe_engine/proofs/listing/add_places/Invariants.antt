-- What is listed so far, and what the places from here on will give, is the whole.
use Rattle.std.proofs.Common.{◌≡◌, ◌++◌, drop}
use Rattle.khe_told.specs.Lists.{tasks_with}
use Rattle.khe_told.specs.Slots.{slot_at}
use Rattle.khe_engine.proofs.listing.add_places.Given as goal

abbrev pub invariant-loop-place : goal.invariant-loop-place
invariant-loop-place l =
    let given = (slot_at l.solution.slots l.number.0).given in
    l.tasks ++ tasks_with l.meet l.place (drop l.place given) ≡ l.fn.tasks ++ tasks_with l.meet 0 given
