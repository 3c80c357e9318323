-- The opening, the sections and the closing are the page.
use Rattle.std.proofs.Common.{Bor, [], ◌++◌, map}
use Rattle.khe_io.proofs.AmidLemmas.{one-ok}
use Rattle.timetable_page.specs.Words.{shows}
use Rattle.timetable_page.proofs.PageLemmas.{amid_text, put_whole}
use Rattle.timetable_page.proofs.program.write_rest.Goals as goal
use Rattle.xhstt_shape.specs.declared.records.RawSolution.{RawSolution}

pub returns-clause-put : goal.returns-clause-put
returns-clause-put g c = λ before opening h.
    let parts = c.args.parts.now in
    let raws = map (λ (x : Bor RawSolution). x.now) parts.raws.now in
    let sent = g.K.Sink.taken c.write_sections.new.out in
    let all = c.in_ok-shown.ensures.sent before opening h in
    let w = opening ++ all.sections in
    let end = c.in_ok-end.end in
    one-ok c.send.result (c.send.ensures.amid before [] (w ++ end) (amid_text before sent w end all.amid))
    (λ amid. put_whole parts.archive.now parts.resolved.now raws (shows parts.choice) c.in_ok-shown.shown before sent
    (g.K.Sink.taken c.send.new.out) opening end c.requires.raws all amid)
