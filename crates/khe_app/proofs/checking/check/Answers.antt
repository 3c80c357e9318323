-- What was written, or why nothing was.
use Rattle.reading_commands.specs.Answers.{reading_of}
use Rattle.khe_app.proofs.CheckEnds.{end_respelled}
use Rattle.khe_app.proofs.EndsLemmas.{not_two, reading_not_two}
use Rattle.khe_app.proofs.checking.check.Goals as goal

pub returns-in-Ok-clause-end : goal.returns-in-Ok-clause-end
returns-in-Ok-clause-end g c =
    end_respelled (g.S.Shelf.holdings c.args.shelf.now) c.args.name.now c.in-Ok.answer _ _ _ _ _ _ _
    c.write_spelling-status.result.0 c.in-Ok.ensures.answer c.in-Ok.ensures.ready c.write_spelling-status.ensures.written

pub returns-in-Ok-clause-status : goal.returns-in-Ok-clause-status
returns-in-Ok-clause-status g c = not_two _ _ _ _ _ _ c.write_spelling-status.result.0 c.write_spelling-status.ensures.written
    (reading_not_two (reading_of c.in-Ok.answer))
