-- One task more or less, and who then waits.
use Rattle.std.proofs.Common.{Some, length, sym, subst, arith}
use Rattle.resource_monitors.proofs.PlaceLaws.{list_at}
use Rattle.resource_monitors.specs.Loads.{CanTurn, Turned, is_on_workload, worth_at}
use Rattle.resource_monitors.proofs.LoadStepLaws.{measured_after, on_load, posts_known, turned_none}
use Rattle.resource_monitors.proofs.load_turns.follow_place.Goals as goal

pub turn_load-requires-clause-can : goal.turn_load-requires-clause-can
turn_load-requires-clause-can g c = subst (λ n. CanTurn c.args.rises (Some c.in-Some.r) n c.args.loads.now.items)
    (sym c.worth_of-worth.ensures)
    (subst (λ o. CanTurn c.args.rises o (worth_at c.args.inst.now c.args.task.event c.args.task.duration
    c.args.task.number)
    c.args.loads.now.items) c.in-Some.is c.requires.can)

pub add_all-requires : goal.add_all-requires
add_all-requires g c = record {
  known = λ k a h. (let l = posts_known c.args.inst.now c.facts.ensures c.in-Some.r c.as_slice-list.result.now
      (list_at is_on_workload (length c.args.inst.now.resources) c.args.inst.now.monitors c.args.lists.now
      c.in-Some.r.0 c.index-lists-r.result c.as_slice-list.result.now c.requires.lists
      (c.requires.resource c.in-Some.r c.in-Some.is) c.index-lists-r.is c.as_slice-list.ensures) k a h in
      let b = c.requires.monitors in omega (arith, l, b));
}

pub returns-clause-loads : goal.returns-clause-loads
returns-clause-loads g c =
    subst (λ o. Turned c.args.rises o (worth_at c.args.inst.now c.args.task.event c.args.task.duration
    c.args.task.number)
    c.args.loads.now.items c.turn_load.new.loads.items) (sym c.in-Some.is)
    (subst (λ n. Turned c.args.rises (Some c.in-Some.r) n c.args.loads.now.items c.turn_load.new.loads.items)
    c.worth_of-worth.ensures c.turn_load.ensures.loads)

pub returns-clause-unmoved : goal.returns-clause-unmoved
returns-clause-unmoved g c = measured_after c.args.inst.now c.facts.ensures c.in-Some.r c.as_slice-list.result.now
    (list_at is_on_workload (length c.args.inst.now.resources) c.args.inst.now.monitors c.args.lists.now
    c.in-Some.r.0 c.index-lists-r.result c.as_slice-list.result.now c.requires.lists
    (c.requires.resource c.in-Some.r c.in-Some.is) c.index-lists-r.is c.as_slice-list.ensures)
    c.args.rises c.args.place c.worth_of-worth.result c.args.loads.now.items c.turn_load.new.loads.items g.W.Waits.hears
    (g.W.Waits.waits c.args.waits.now) (g.W.Waits.waits c.add_all.new.waits) c.turn_load.ensures.loads
    c.add_all.ensures.added

pub returns-clause-listed : goal.returns-clause-listed
returns-clause-listed g c = on_load c.args.inst.now c.facts.ensures c.in-Some.r c.as_slice-list.result.now
    (list_at is_on_workload (length c.args.inst.now.resources) c.args.inst.now.monitors c.args.lists.now
    c.in-Some.r.0 c.index-lists-r.result c.as_slice-list.result.now c.requires.lists
    (c.requires.resource c.in-Some.r c.in-Some.is) c.index-lists-r.is c.as_slice-list.ensures)
    (λ m. g.W.Waits.hears) c.args.place c.in-Some.is (g.W.Waits.waits c.args.waits.now)
    (g.W.Waits.waits c.add_all.new.waits) c.add_all.ensures.added

pub returns-in_default-clause-loads : goal.returns-in_default-clause-loads
returns-in_default-clause-loads g c = turned_none c.args.rises c.args.place
    (worth_at c.args.inst.now c.args.task.event c.args.task.duration c.args.task.number) c.args.loads.now.items
    c.in_default.is
