-- The places of the events so far have empty lists.
use Rattle.khe_instance.specs.ByPlace.{HasPlaces}
use Rattle.khe_instance.proofs.by_place.no_monitors.Given as goal

abbrev pub invariant-loop-event : goal.invariant-loop-event
invariant-loop-event l = HasPlaces l.inst l.event l.rows
