use Rattle.std.proofs.Common.{◌∙◌, sym}
use Rattle.khe_told.specs.Effects.{turned_all}
use Rattle.event_monitors.specs.SplitEvents.{split_exact}
use Rattle.event_monitors.proofs.split_events.SplitGauge.value_after.Goals as goal

pub returns-clause-value : goal.returns-clause-value
returns-clause-value c = split_exact c.args.inst.now c.args.monitor (turned_all c.args.told.now c.args.effects.now)
    c.total_after-unfit.result c.total_after-meets.result c.requires.keeps.0 c.requires.keeps.1
    c.total_after-unfit.ensures.total c.total_after-meets.ensures.total ∙ sym c.measure_both.ensures.value
