-- What was opened comes first.
use Rattle.std.proofs.Common.{[]}
use Rattle.timetable_page.proofs.PageLemmas.{first_amid}
use Rattle.timetable_page.proofs.program.write_parts.Goals as goal

pub returns-clause-put : goal.returns-clause-put
returns-clause-put g c =
    let before = g.K.Sink.taken c.args.out.now in
    let text = c.in_ok-text.text in
    c.write_judged.ensures.put before text (c.in_ok-send.ensures.amid before [] text (first_amid before text))
