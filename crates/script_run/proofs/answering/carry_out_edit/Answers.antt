-- The trace is that after the edit.
use Rattle.script_run.proofs.StepLaws.{on_ok, traced_edit}
use Rattle.script_run.proofs.answering.carry_out_edit.Goals as goal

pub returns-in-Ok-clause-traced : goal.returns-in-Ok-clause-traced
returns-in-Ok-clause-traced g c =
    let w = g.E.Edited.world c.args.engine.now in
    let e = c.in-Ok.ensures in
    on_ok c.push_ok.result
    (traced_edit w.parts w (g.E.Edited.world c.edit.new.self) c.args.edit e.accepted e.state e.saved)
