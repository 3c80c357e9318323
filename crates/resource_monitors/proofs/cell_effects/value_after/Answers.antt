-- What the rule measures at the monitor's resource.
use Rattle.std.proofs.Common.{◌∙◌, sym}
use Rattle.khe_told.specs.Effects.{turned_all}
use Rattle.timetables.specs.Counts.{count_at}
use Rattle.resource_monitors.specs.Shifts.{after_both}
use Rattle.resource_monitors.proofs.CellEffectLaws.{can_here, deviation_is, resource_known}
use Rattle.resource_monitors.proofs.ShiftLaws.{shifts_then}
use Rattle.resource_monitors.proofs.cell_effects.value_after.Goals as goal

pub measure_after-requires-clause-can : goal.measure_after-requires-clause-can
measure_after-requires-clause-can c = can_here c.args.inst.now c.facts.ensures c.args.told.now c.args.effects.now
    c.args.table.now c.in-Resource.r.0 c.shifts_of-shifts.result c.requires.turns c.requires.rows
    (resource_known c.args.inst.now c.args.monitor c.requires.monitor c.requires.kind c.in-Resource.r c.in-Resource.is)
    c.requires.counts c.shifts_of-shifts.ensures.shifts c.shifts_of-shifts.ensures.first
    c.shifts_of-shifts.ensures.second

pub returns : goal.returns
returns c = c.measure_after.ensures
    ∙ sym (deviation_is c.args.inst.now (turned_all c.args.told.now c.args.effects.now) c.args.monitor
    c.constraint.result.now c.in-Resource.r
    (after_both c.shifts_of-shifts.result (count_at c.args.table.now c.in-Resource.r.0)) c.requires.monitor
    c.requires.kind c.constraint.ensures c.in-Resource.is
    (shifts_then c.args.inst.now c.facts.ensures c.in-Resource.r.0 c.shifts_of-shifts.result
    (count_at c.args.table.now c.in-Resource.r.0) c.args.told.now c.args.effects.now c.requires.turns
    c.shifts_of-shifts.ensures.shifts (c.requires.counts c.in-Resource.r.0)))
