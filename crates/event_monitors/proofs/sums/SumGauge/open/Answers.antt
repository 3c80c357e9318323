use Rattle.std.proofs.Common.{◌≤◌, sym, arith}
use Rattle.event_monitors.specs.Shares.{greatest_total}
use Rattle.event_monitors.proofs.Turning.{nothing_yet}
use Rattle.event_monitors.proofs.sums.SumGauge.open.Goals as goal

pub returns : goal.returns
returns g c =
    let small : 0 ≤ greatest_total = omega arith in (
      c.requires.monitor,
      c.requires.served,
      sym (nothing_yet g.S.Share.share g.met.S.Share.bounded c.args.inst.now
          c.args.monitor),
      small,
    )
