-- The families are of the instance, and were told of the slots.
use Rattle.std.proofs.Common.{ap, ◌∙◌}
use Rattle.hall_report.specs.Shortages.{deficit_of}
use Rattle.khe_engine.proofs.engine.Engine.deficit.Goals as goal

pub returns : goal.returns
returns g c =
    let i = c.self.inside in
    rw (← c.self.view_is) (c.deficit.ensures i.inst.now c.self.invariant.1
    ∙ ap (deficit_of i.inst.now) c.self.invariant.3)
