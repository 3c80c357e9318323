use Rattle.set_monitors.proofs.OrderCutLaws.{answer_alike}
use Rattle.set_monitors.proofs.order_events.OrderEdgesKeeper.deviation_after.Goals as goal

pub returns-clause-value : goal.returns-clause-value
returns-clause-value c =
    let k = c.requires.keeps in
    answer_alike c.args.inst.now c.args.self.now.posts c.args.self.now.lists c.args.told.now c.args.effects.now
    c.facts.ensures k.0 k.1 c.requires.foreseen c.requires.turns c.args.monitor.0 c.deviation.result c.requires.served
    (c.deviation.ensures.value c.args.told.now k)
