-- What was written, or why nothing was.
use Rattle.std.proofs.Common.{Some}
use Rattle.reading_commands.specs.Answers.{reading_of}
use Rattle.reading_commands.specs.Outcome.{status_of, text_of}
use Rattle.command_words.specs.Words.{evaluating}
use Rattle.khe_app.proofs.EndsLemmas.{end_written, not_two, reading_not_two, reported, reported-there, status-decided}
use Rattle.khe_app.proofs.program.evaluate.Goals as goal

pub returns-in-Ok-clause-end : goal.returns-in-Ok-clause-end
returns-in-Ok-clause-end g c =
    let h = g.S.Shelf.holdings c.args.shelf.now in
    let reading = reading_of c.in-Ok.answer in
    end_written (Some (evaluating c.args.name.now c.args.all)) h _ _ _ _ _ _ _ (text_of c.args.all reading)
    (status_of reading) c.write_report-status.result.0
    (reported h c.args.name.now c.args.all c.in-Ok.answer c.in-Ok.ensures.answer) (status-decided reading)
    c.write_report-status.ensures.written
    (λ s l. reported-there h c.args.name.now c.args.all c.in-Ok.answer c.in-Ok.ensures.answer l)

pub returns-in-Ok-clause-status : goal.returns-in-Ok-clause-status
returns-in-Ok-clause-status g c = not_two _ _ _ _ _ _ c.write_report-status.result.0 c.write_report-status.ensures.written
    (reading_not_two (reading_of c.in-Ok.answer))
