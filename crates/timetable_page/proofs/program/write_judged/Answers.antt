-- The summary follows the head, and both are the opening.
use Rattle.std.proofs.Common.{[], ◌++◌}
use Rattle.timetable_page.proofs.PageLemmas.{amid_text}
use Rattle.timetable_page.proofs.program.write_judged.Goals as goal

pub returns-clause-put : goal.returns-clause-put
returns-clause-put g c = λ before head h.
    let text = c.in_ok-text.text in
    c.write_rest.ensures.put before (head ++ text)
    (c.in_ok-send.ensures.amid before [] (head ++ text) (amid_text before (g.K.Sink.taken c.args.out.now) head text h))
