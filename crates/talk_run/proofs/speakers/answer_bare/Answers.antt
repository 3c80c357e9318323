-- Nothing waits before and after the answer.
use Rattle.std.proofs.Common.{[], ◌∙◌, ap}
use Rattle.khe_io.proofs.AmidLemmas.{always-err, one-err, one-ok}
use Rattle.khe_io.specs.Faults.{TookFront}
use Rattle.script_run.specs.Plays.{play_of}
use Rattle.talk_run.specs.Answers.{answered, archive_bytes, turned}
use Rattle.talk_run.specs.Lines.{talk_reading}
use Rattle.talk_run.proofs.BetweenLemmas.{between_begin, between_cut, between_end, between_flush}
use Rattle.talk_run.proofs.speakers.answer_bare.Goals as goal

pub returns-in_err-answer_reading-clause-front : goal.returns-in_err-answer_reading-clause-front
returns-in_err-answer_reading-clause-front g c =
    let s = c.args.speaker.now in
    let says = answered (archive_bytes s.archive s.solution s.engine.parts) s.engine.parts (play_of s.engine) c.args.number in
    let before = g.K.Sink.taken c.args.out.now in
    let whole = says (talk_reading c.args.line.now) in
    always-err c.from_residual.result {P = TookFront before (g.K.Sink.taken c.answer_reading.new.out) whole}
    (c.in_err-answer_reading.ensures.front before [] whole
    (between_begin before c.new-text.result (says c.read_talk_line.result) whole c.new-text.ensures
    (ap says c.read_talk_line.ensures.reading)))

pub returns-clause-answered : goal.returns-clause-answered
returns-clause-answered g c =
    let s = c.args.speaker.now in
    let says = answered (archive_bytes s.archive s.solution s.engine.parts) s.engine.parts (play_of s.engine) c.args.number in
    let before = g.K.Sink.taken c.args.out.now in
    let whole = says (talk_reading c.args.line.now) in
    let middle = g.K.Sink.taken c.answer_reading.new.out in
    let after = g.K.Sink.taken c.flush.new.out in
    let mid = c.in_ok-answer_reading.ensures.answered before [] whole
    (between_begin before c.new-text.result (says c.read_talk_line.result) whole c.new-text.ensures
    (ap says c.read_talk_line.ensures.reading)) in
    one-ok c.flush.result c.flush.ensures.taken (λ took.
    between_end before after whole (between_flush before middle after c.answer_reading.new.text [] whole mid took))

pub returns-clause-front : goal.returns-clause-front
returns-clause-front g c =
    let s = c.args.speaker.now in
    let says = answered (archive_bytes s.archive s.solution s.engine.parts) s.engine.parts (play_of s.engine) c.args.number in
    let before = g.K.Sink.taken c.args.out.now in
    let whole = says (talk_reading c.args.line.now) in
    let middle = g.K.Sink.taken c.answer_reading.new.out in
    let after = g.K.Sink.taken c.flush.new.out in
    let mid = c.in_ok-answer_reading.ensures.answered before [] whole
    (between_begin before c.new-text.result (says c.read_talk_line.result) whole c.new-text.ensures
    (ap says c.read_talk_line.ensures.reading)) in
    one-err c.flush.result c.flush.ensures.front
    (between_cut before middle after c.answer_reading.new.text [] whole mid)
