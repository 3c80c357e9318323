-- One task more or less, and who then waits.
use Rattle.std.proofs.Common.{length, sym, subst}
use Rattle.resource_monitors.specs.Cells.{is_due}
use Rattle.resource_monitors.specs.Posts.{AreAdded, list_for}
use Rattle.resource_monitors.specs.Runs.{AreAtRun}
use Rattle.resource_monitors.proofs.FamilyLaws.{at_run, measured_after}
use Rattle.resource_monitors.proofs.places.follow_place.Goals as goal

pub returns-then-hears-clause-unmoved : goal.returns-then-hears-clause-unmoved
returns-then-hears-clause-unmoved g c = λ hears.
    (let p = c.args.audience.now.inst.now in
    let served = g.K.CellKinds.serves_kind in
    let run = c.in-Some.run' in
    measured_after p served c.facts.ensures g.met.K.CellKinds.at_cells c.args.table.now c.turn_place.new.table
    c.args.place c.args.rises run (g.W.Waits.waits c.args.waits.now) (g.W.Waits.waits c.add_place.new.waits)
    c.turn_place.ensures.counts
    (subst (λ n. AreAdded (is_due p c.turn_place.new.table run.start run.end n)
    (list_for served p.monitors c.args.place)
    (length (list_for served p.monitors c.args.place)) (g.W.Waits.waits c.args.waits.now)
    (g.W.Waits.waits c.add_place.new.waits)) c.limit_for-limit.ensures c.add_place.ensures.added))

pub returns-then-hears-clause-listed : goal.returns-then-hears-clause-listed
returns-then-hears-clause-listed g c =
    subst (λ o. AreAtRun c.args.audience.now.inst.now c.args.place o (g.W.Waits.waits c.args.waits.now)
    (g.W.Waits.waits c.add_place.new.waits)) (sym c.in-Some.is)
    (at_run c.args.audience.now.inst.now g.K.CellKinds.serves_kind c.facts.ensures g.met.K.CellKinds.at_cells
    c.turn_place.new.table c.limit_for-limit.result c.args.place c.in-Some.run' (g.W.Waits.waits c.args.waits.now)
    (g.W.Waits.waits c.add_place.new.waits) c.add_place.ensures.added)
