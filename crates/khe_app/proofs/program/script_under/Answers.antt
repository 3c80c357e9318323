-- What was taken is what stands under the name.
use Rattle.khe_app.proofs.TakenScripts.{script_taken}
use Rattle.khe_app.proofs.program.script_under.Goals as goal

pub returns-in-Ok-clause-play : goal.returns-in-Ok-clause-play
returns-in-Ok-clause-play g c =
    script_taken (g.S.Shelf.holdings c.args.shelf.now) c.args.script.now c.in-Ok.bytes c.args.begun
    c.in-Ok.ensures.whole c.in-Ok.ensures.within
