-- The monitors of an instance are at what it has; one more monitor.
use Rattle.construct.proofs.AmountLaws.{bounds_more, bounds_start}
use Rattle.khe_base.proofs.ListLemmas.{all-there}
use Rattle.khe_instance.specs.WellMade.{IsMonitor}
use Rattle.construct.proofs.amounts.bounds_table.Goals as goal

pub loop-number-init : goal.loop-number-init
loop-number-init c = bounds_start c.args.inst.now c.in_ok-table.table.items c.in_ok-table.ensures

pub narrow-requires-clause-of : goal.narrow-requires-clause-of
narrow-requires-clause-of c =
    all-there (IsMonitor c.args.inst.now) c.args.inst.now.monitors c.loop-number.number c.monitor.result
    c.facts.ensures.monitors.each c.monitor.ensures

pub loop-number-preserved : goal.loop-number-preserved
loop-number-preserved c =
    bounds_more c.args.inst.now c.loop-number.number c.monitor.result c.loop-number.table.items
    c.narrow.new.table.items c.loop-number.invariant c.monitor.ensures c.narrow.ensures
