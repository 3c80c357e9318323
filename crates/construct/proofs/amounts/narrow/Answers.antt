-- A table stays as it is but where a Split Events monitor is at an event.
use Rattle.std.proofs.Common.{sym}
use Rattle.construct.proofs.AmountLaws.{at_no_event, constraint_there, event_there, narrowed_at, of_no_split}
use Rattle.construct.proofs.amounts.narrow.Goals as goal

pub returns-in_default : goal.returns-in_default
returns-in_default c = at_no_event c.args.inst.now c.args.monitor c.args.table.now.items c.in_default.ensures

pub constraint-requires : goal.constraint-requires
constraint-requires c = constraint_there c.args.inst.now c.args.monitor c.requires.of

pub returns-in-Some-bounds_in : goal.returns-in-Some-bounds_in
returns-in-Some-bounds_in c =
    narrowed_at c.args.inst.now c.args.monitor c.in-Some.event c.constraint.result.now c.in-Some-bounds_in.more
    c.args.table.now.items c.narrow_at.new.table.items c.in-Some.ensures c.constraint.ensures
    (sym c.in-Some-bounds_in.ensures)
    (rw c.requires.many (event_there c.args.inst.now c.args.monitor c.in-Some.event c.requires.of c.in-Some.ensures))
    c.narrow_at.ensures

pub returns-in_default-bounds_in : goal.returns-in_default-bounds_in
returns-in_default-bounds_in c =
    of_no_split c.args.inst.now c.args.monitor c.constraint.result.now c.args.table.now.items c.constraint.ensures
    (sym c.in_default-bounds_in.ensures)

pub narrow_at-requires : goal.narrow_at-requires
narrow_at-requires c =
    rw c.requires.many (event_there c.args.inst.now c.args.monitor c.in-Some.event c.requires.of c.in-Some.ensures)
