-- A monitor that the families leave out has the deviation that it had.
use Rattle.std.proofs.Common.{refl}
use Rattle.khe_told.specs.Effects.{turned_all}
use Rattle.khe_told.specs.Waits.{waits_in}
use Rattle.khe_engine.proofs.SettleLaws.{left_measured}
use Rattle.khe_engine.proofs.trials.queue_by.Goals as goal

pub returns-clause-measured : goal.returns-clause-measured
returns-clause-measured g c =
    let told = g.F.Family.told c.args.listeners.now.families in
    left_measured c.args.inst.now g.F.Family.serves_kind (waits_in c.queue_affected.new.waits) told
    (turned_all told c.args.effects.now) c.args.listeners.now.graph c.requires.serves c.requires.values
    (c.queue_affected.ensures.unmoved refl)
