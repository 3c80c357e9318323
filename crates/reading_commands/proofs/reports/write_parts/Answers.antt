-- All solutions are left after the header, and none in the end.
use Rattle.std.proofs.Common.{map, Bor, []}
use Rattle.khe_base.specs.declared.texts.Text.{Text}
use Rattle.xhstt_shape.specs.declared.records.RawSolution.{RawSolution}
use Rattle.reading_commands.specs.Report.{report}
use Rattle.khe_io.proofs.AmidLemmas.{always-err, amid-cut, amid-end, amid-flush, err-of, one-err, one-ok}
use Rattle.reading_commands.proofs.WindowLemmas.{at_first}
use Rattle.reading_commands.proofs.reports.write_parts.Goals as goal

pub returns-in_err-write_windows-clause-front : goal.returns-in_err-write_windows-clause-front
returns-in_err-write_windows-clause-front g c =
    let a = c.args.archive.now in
    let p = c.args.parts.now in
    let r = p.resolved.now in
    let before = g.K.Sink.taken c.args.out.now in
    always-err c.from_residual-in_err-write_windows.result
    (err-of c.write_windows.result c.in_err-write_windows.field-0.0 c.in_err-write_windows.was
    (c.write_windows.ensures.front before (report p.all a r)
    (at_first before p.all a r c.in_ok-text.text (map (λ (x : Bor Text). x.now) p.groups.now)
    (map (λ (x : Bor RawSolution). x.now) p.raws.now) c.in_ok-text.ensures c.requires.parts.groups
    c.requires.parts.raws)))

pub returns-clause-whole : goal.returns-clause-whole
returns-clause-whole g c =
    let a = c.args.archive.now in
    let p = c.args.parts.now in
    let r = p.resolved.now in
    let before = g.K.Sink.taken c.args.out.now in
    let written = g.K.Sink.taken c.write_windows.new.out in
    let whole = report p.all a r in
    let amid = c.in_ok-write_windows.ensures.amid before whole
    (at_first before p.all a r c.in_ok-text.text (map (λ (x : Bor Text). x.now) p.groups.now)
    (map (λ (x : Bor RawSolution). x.now) p.raws.now) c.in_ok-text.ensures c.requires.parts.groups
    c.requires.parts.raws) in
    one-ok c.flush.result c.flush.ensures.taken
    (λ took. amid-end before (g.K.Sink.taken c.flush.new.out) whole
    (amid-flush before written (g.K.Sink.taken c.flush.new.out) c.write_windows.new.text [] whole amid took))

pub returns-clause-front : goal.returns-clause-front
returns-clause-front g c =
    let a = c.args.archive.now in
    let p = c.args.parts.now in
    let r = p.resolved.now in
    let before = g.K.Sink.taken c.args.out.now in
    let written = g.K.Sink.taken c.write_windows.new.out in
    let whole = report p.all a r in
    let amid = c.in_ok-write_windows.ensures.amid before whole
    (at_first before p.all a r c.in_ok-text.text (map (λ (x : Bor Text). x.now) p.groups.now)
    (map (λ (x : Bor RawSolution). x.now) p.raws.now) c.in_ok-text.ensures c.requires.parts.groups
    c.requires.parts.raws) in
    one-err c.flush.result c.flush.ensures.front
    (λ cut. amid-cut before written (g.K.Sink.taken c.flush.new.out) c.write_windows.new.text [] whole amid cut)
