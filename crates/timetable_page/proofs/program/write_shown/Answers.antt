-- A solution is shown, or is not asked for.
use Rattle.std.proofs.Common.{◌∙◌, sym}
use Rattle.timetable_page.specs.Words.{shows}
use Rattle.timetable_page.proofs.PageLemmas.{one_passed}
use Rattle.timetable_page.proofs.program.write_shown.Goals as goal

pub returns-then-shows-clause-sent : goal.returns-then-shows-clause-sent
returns-then-shows-clause-sent g c = λ before opening raws found h.
    c.write_section.ensures.sent before opening raws found (sym c.shows.ensures ∙ c.if-shows.true) h

pub returns-clause-sent : goal.returns-clause-sent
returns-clause-sent g c = λ before opening raws found h.
    one_passed c.args.parts.now.resolved.now raws (shows c.args.parts.now.choice) c.args.number c.args.sent before
    (g.K.Sink.taken c.args.out.now) opening (sym c.shows.ensures ∙ c.if-shows.false) h
