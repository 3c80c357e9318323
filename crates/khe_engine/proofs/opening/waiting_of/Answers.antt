use Rattle.khe_engine.proofs.SettleLaws.{opened_idle}
use Rattle.khe_engine.proofs.opening.waiting_of.Goals as goal

pub returns : goal.returns
returns c = opened_idle c.args.inst.now c.open.result c.monitors.result c.monitors.ensures c.open.ensures.flags
    c.open.ensures.amount
