use Rattle.std.proofs.Common.{◌≤◌, sym, arith}
use Rattle.event_monitors.specs.Shares.{greatest_total}
use Rattle.event_monitors.specs.SplitEvents.{meets, meets_bounded, unfit, unfit_bounded}
use Rattle.event_monitors.proofs.Turning.{nothing_yet}
use Rattle.event_monitors.proofs.split_events.SplitGauge.open.Goals as goal

pub returns : goal.returns
returns c =
    let small : 0 ≤ greatest_total = omega arith in (
      c.requires.monitor,
      c.requires.served,
      sym (nothing_yet unfit unfit_bounded c.args.inst.now c.args.monitor),
      small,
      sym (nothing_yet meets meets_bounded c.args.inst.now c.args.monitor),
      small,
    )
