-- One task less and one more.
use Rattle.std.proofs.Common.{inl, ap}
use Rattle.resource_monitors.proofs.WaitLaws.{same_on}
use Rattle.resource_monitors.specs.Loads.{is_on_workload, value_in, worth_at}
use Rattle.resource_monitors.proofs.LoadStepLaws.{exchanged_both, on_either, passed_over, room_then}
use Rattle.resource_monitors.proofs.load_turns.follow_both.Goals as goal

pub returns-then-is_same-clause-loads : goal.returns-then-is_same-clause-loads
returns-then-is_same-clause-loads g c =
    let same = c.is_same.ensures.same c.if-is_same.true in
    passed_over c.args.handed.before c.args.handed.later
    (worth_at c.args.inst.now c.args.resized.event c.args.resized.less c.args.handed.number)
    (worth_at c.args.inst.now c.args.resized.event c.args.resized.more c.args.handed.number)
    c.args.loads.now.items same.0
    (ap (λ d. worth_at c.args.inst.now c.args.resized.event d c.args.handed.number) same.1)

pub returns-then-is_same-clause-listed : goal.returns-then-is_same-clause-listed
returns-then-is_same-clause-listed g c = λ i e. inl e

pub follow_place-requires-2-clause-can : goal.follow_place-requires-2-clause-can
follow_place-requires-2-clause-can g c = room_then c.args.handed.before c.args.handed.later
    (worth_at c.args.inst.now c.args.resized.event c.args.resized.less c.args.handed.number)
    (worth_at c.args.inst.now c.args.resized.event c.args.resized.more c.args.handed.number)
    c.args.loads.now.items c.follow_place.new.loads.items c.follow_place.ensures.loads c.requires.room

pub returns-clause-loads : goal.returns-clause-loads
returns-clause-loads g c = exchanged_both c.args.handed.before c.args.handed.later
    (worth_at c.args.inst.now c.args.resized.event c.args.resized.less c.args.handed.number)
    (worth_at c.args.inst.now c.args.resized.event c.args.resized.more c.args.handed.number)
    c.args.loads.now.items c.follow_place.new.loads.items c.follow_place-2.new.loads.items
    c.follow_place.ensures.loads c.follow_place-2.ensures.loads

pub returns-clause-unmoved : goal.returns-clause-unmoved
returns-clause-unmoved g c = λ hears. same_on c.args.inst.now is_on_workload
    (value_in c.args.inst.now c.args.loads.now.items) (value_in c.args.inst.now c.follow_place.new.loads.items)
    (value_in c.args.inst.now c.follow_place-2.new.loads.items) (g.W.Waits.waits c.follow_place.new.waits)
    (g.W.Waits.waits c.follow_place-2.new.waits) (c.follow_place.ensures.unmoved hears)
    c.follow_place-2.ensures.kept (c.follow_place-2.ensures.unmoved hears)

pub returns-clause-listed : goal.returns-clause-listed
returns-clause-listed g c = on_either c.args.inst.now c.args.handed.before c.args.handed.later c.args.resized.less
    c.args.resized.more
    (g.W.Waits.waits c.args.waits.now) (g.W.Waits.waits c.follow_place.new.waits)
    (g.W.Waits.waits c.follow_place-2.new.waits) (c.is_same.ensures.differ c.if-is_same.false)
    c.follow_place.ensures.listed c.follow_place-2.ensures.listed
