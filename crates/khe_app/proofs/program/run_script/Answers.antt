-- What was written, or why nothing was.
use Rattle.khe_app.proofs.PlayEnds.{end_played, played_not_two}
use Rattle.khe_app.proofs.program.run_script.Goals as goal

pub returns-in-Ok-clause-end : goal.returns-in-Ok-clause-end
returns-in-Ok-clause-end g c =
    end_played c.args.tied (g.S.Shelf.holdings c.args.shelf.now) c.args.name.now c.args.number c.args.script.now c.in-Ok.play _ _ _
    _ _ _ _ c.write_play-status.result.0 c.in-Ok.ensures.play c.in-Ok.ensures.ready c.write_play-status.ensures.written

pub returns-in-Ok-clause-status : goal.returns-in-Ok-clause-status
returns-in-Ok-clause-status g c = played_not_two c.args.tied c.in-Ok.play _ _ _ _ c.write_play-status.result.0 c.in-Ok.ensures.ready
    c.write_play-status.ensures.written
