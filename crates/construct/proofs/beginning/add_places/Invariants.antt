-- What is listed so far, and what the places from here on will give, is the whole.
use Rattle.std.proofs.Common.{◌≡◌, ◌++◌, drop, map}
use Rattle.khe_instance.specs.declared.parts.Place.{Place}
use Rattle.khe_instance.specs.declared.states.Meet.{Meet}
use Rattle.khe_told.specs.Lists.{tasks_with}
use Rattle.construct.proofs.beginning.add_places.Given as goal

abbrev pub invariant-loop-place : goal.invariant-loop-place
invariant-loop-place l =
    let given = map (λ (y : Place). y.fixed) l.info.places in
    (m : Meet) → m.meet ≡ l.meet
    → l.tasks ++ tasks_with m l.place (drop l.place given) ≡ l.fn.tasks ++ tasks_with m 0 given
