-- One section more was taken.
use Rattle.std.proofs.Common.{[], ◌++◌, ◌+◌, ◌≤◌, ap, arith, length, encode_utf8_all}
use Rattle.timetable_page.specs.Words.{shows}
use Rattle.timetable_page.proofs.PageLemmas.{amid_text, one_sent}
use Rattle.timetable_page.proofs.program.write_section.Goals as goal

pub returns-clause-sent : goal.returns-clause-sent
returns-clause-sent g c = λ before opening raws found asked h.
    let text = c.in_ok-text.text in
    let now = g.K.Sink.taken c.args.out.now in
    let bound : c.saturating_add.result ≤ c.args.sent + length (encode_utf8_all text) =
    omega (arith, c.saturating_add.ensures, ap length c.as_bytes.ensures) in
    one_sent c.args.parts.now.resolved.now raws (shows c.args.parts.now.choice) c.args.number c.args.sent
    c.saturating_add.result before now (g.K.Sink.taken c.send.new.out) opening text c.args.solution.now found asked
    c.in_ok-text.ensures bound h
    (c.in_ok-send.ensures.amid before [] ((opening ++ h.sections) ++ text)
    (amid_text before now (opening ++ h.sections) text h.amid))
