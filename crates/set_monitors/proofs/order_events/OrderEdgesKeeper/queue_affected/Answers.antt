use Rattle.set_monitors.proofs.OrderCutLaws.{unmoved_alike}
use Rattle.set_monitors.proofs.order_events.OrderEdgesKeeper.queue_affected.Goals as goal

pub returns-clause-unmoved : goal.returns-clause-unmoved
returns-clause-unmoved g c = λ hears.
    let k = c.requires.keeps in
    unmoved_alike c.args.inst.now c.args.self.now.posts c.args.self.now.lists c.args.told.now c.args.effects.now
    c.facts.ensures k.0 k.1 c.requires.foreseen c.requires.turns (g.W.Waits.waits c.args.waits.now)
