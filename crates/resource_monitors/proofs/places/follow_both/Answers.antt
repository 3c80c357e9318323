-- One task less and one more.
use Rattle.std.proofs.Common.{inl}
use Rattle.timetables.specs.Counts.{count_at}
use Rattle.resource_monitors.specs.Cells.{value_in}
use Rattle.resource_monitors.proofs.ExchangeLaws.{at_either, exchanged_both, passed_over, room_then}
use Rattle.resource_monitors.proofs.WaitLaws.{same_on}
use Rattle.resource_monitors.proofs.places.follow_both.Goals as goal

pub returns-then-is_same-clause-counts : goal.returns-then-is_same-clause-counts
returns-then-is_same-clause-counts g c =
    let same = c.is_same.ensures.same c.if-is_same.true in
    passed_over c.args.emptied c.args.filled c.args.before c.args.later (count_at c.args.table.now) same.0 same.1

pub returns-then-is_same-clause-listed : goal.returns-then-is_same-clause-listed
returns-then-is_same-clause-listed g c = λ i e. inl e

pub follow_place-requires-clause-counts : goal.follow_place-requires-clause-counts
follow_place-requires-clause-counts g c = c.requires.some

pub follow_place-requires-2-clause-counts : goal.follow_place-requires-2-clause-counts
follow_place-requires-2-clause-counts g c = room_then c.args.later c.args.filled c.args.before c.args.emptied
    (count_at c.args.table.now) (count_at c.follow_place.new.table) c.requires.room c.follow_place.ensures.counts

pub returns-clause-counts : goal.returns-clause-counts
returns-clause-counts g c = exchanged_both c.args.before c.args.later c.args.emptied c.args.filled
    (count_at c.args.table.now) (count_at c.follow_place.new.table) (count_at c.follow_place-2.new.table)
    c.follow_place.ensures.counts c.follow_place-2.ensures.counts

pub returns-clause-unmoved : goal.returns-clause-unmoved
returns-clause-unmoved g c = λ hears. same_on c.args.audience.now.inst.now g.K.CellKinds.serves_kind
    (value_in c.args.audience.now.inst.now c.args.table.now)
    (value_in c.args.audience.now.inst.now c.follow_place.new.table)
    (value_in c.args.audience.now.inst.now c.follow_place-2.new.table) (g.W.Waits.waits c.follow_place.new.waits)
    (g.W.Waits.waits c.follow_place-2.new.waits) (c.follow_place.ensures.unmoved hears)
    c.follow_place-2.ensures.kept (c.follow_place-2.ensures.unmoved hears)

pub returns-clause-listed : goal.returns-clause-listed
returns-clause-listed g c = at_either c.args.audience.now.inst.now c.args.before c.args.later c.args.emptied
    c.args.filled
    (g.W.Waits.waits c.args.waits.now) (g.W.Waits.waits c.follow_place.new.waits)
    (g.W.Waits.waits c.follow_place-2.new.waits) (c.is_same.ensures.differ c.if-is_same.false)
    c.follow_place.ensures.listed c.follow_place-2.ensures.listed
