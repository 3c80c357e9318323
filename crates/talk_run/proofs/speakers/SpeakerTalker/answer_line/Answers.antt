-- The answer, and then the line that ends it.
use Rattle.std.proofs.Common.{◌+◌, ◌∷◌, [], ◌++◌, ◌∙◌, ap, codes, subst, sym}
use Rattle.khe_io.specs.Faults.{TookFront}
use Rattle.khe_io.proofs.AmidLemmas.{always-err}
use Rattle.script_run.specs.Plays.{play_of}
use Rattle.talk_run.specs.Answers.{answered, archive_bytes, turned}
use Rattle.talk_run.specs.Between.{IsBetween}
use Rattle.talk_run.specs.Lines.{talk_reading}
use Rattle.talk_run.specs.Talks.{talk_bytes}
use Rattle.talk_run.proofs.BetweenLemmas.{between_pushed, between_stop}
use Rattle.talk_run.proofs.SentLaws.{ahead, said_alike, stop_bytes}
use Rattle.talk_run.proofs.speakers.SpeakerTalker.answer_line.Goals as goal

pub returns-in_err-answer_reading-clause-front : goal.returns-in_err-answer_reading-clause-front
returns-in_err-answer_reading-clause-front g c = λ before more whole h.
    let s = c.args.self.now in
    let p = s.engine.parts in
    let w = play_of s.engine in
    let spelled = archive_bytes s.archive s.solution p in
    let n = c.args.number in
    let r = talk_reading c.args.line.now in
    let rest = talk_bytes spelled p (turned p w r) (n + 1) more in
    always-err c.from_residual.result {P = TookFront before (g.K.Sink.taken c.answer_reading.new.out) whole}
    (c.in_err-answer_reading.ensures.front before (46 ∷ 10 ∷ rest) whole
    (ahead before (g.K.Sink.taken c.args.out.now) c.args.text.now (answered spelled p w n r)
    (answered spelled p w n c.read_talk_line.result) rest whole
    (ap (answered spelled p w n) c.read_talk_line.ensures.reading) h))

pub returns-in_err-end_answer-clause-front : goal.returns-in_err-end_answer-clause-front
returns-in_err-end_answer-clause-front g c = λ before more whole h.
    let s = c.args.self.now in
    let p = s.engine.parts in
    let w = play_of s.engine in
    let spelled = archive_bytes s.archive s.solution p in
    let n = c.args.number in
    let r = talk_reading c.args.line.now in
    let rest = talk_bytes spelled p (turned p w r) (n + 1) more in
    let after = g.K.Sink.taken c.answer_reading.new.out in
    let mid = c.in_ok-answer_reading.ensures.answered before (46 ∷ 10 ∷ rest) whole
    (ahead before (g.K.Sink.taken c.args.out.now) c.args.text.now (answered spelled p w n r)
    (answered spelled p w n c.read_talk_line.result) rest whole
    (ap (answered spelled p w n) c.read_talk_line.ensures.reading) h) in
    always-err c.from_residual-in_err-end_answer.result {P = TookFront before after whole}
    (between_stop before after c.answer_reading.new.text (46 ∷ 10 ∷ rest) whole mid)

pub returns-clause-answered : goal.returns-clause-answered
returns-clause-answered g c = λ before more whole h.
    let s = c.args.self.now in
    let v = c.answer_reading.new.speaker in
    let p = s.engine.parts in
    let w = play_of s.engine in
    let spelled = archive_bytes s.archive s.solution p in
    let n = c.args.number in
    let r = talk_reading c.args.line.now in
    let rest = talk_bytes spelled p (turned p w r) (n + 1) more in
    let after = g.K.Sink.taken c.answer_reading.new.out in
    let mid = c.in_ok-answer_reading.ensures.answered before (46 ∷ 10 ∷ rest) whole
    (ahead before (g.K.Sink.taken c.args.out.now) c.args.text.now (answered spelled p w n r)
    (answered spelled p w n c.read_talk_line.result) rest whole
    (ap (answered spelled p w n) c.read_talk_line.ensures.reading) h) in
    let stopped = between_pushed before after c.answer_reading.new.text c.end_answer.new.text (codes ".\n")
    (46 ∷ 10 ∷ []) rest whole stop_bytes c.in_ok-end_answer.ensures mid in
    subst (λ xs. IsBetween before after c.end_answer.new.text xs whole)
    (sym (said_alike s.archive v.archive s.solution v.solution p v.engine.parts (turned p w r) (play_of v.engine) (n + 1)
    more c.in_ok-answer_reading.ensures.parts c.in_ok-answer_reading.ensures.solution
    (c.in_ok-answer_reading.ensures.played ∙ ap (turned p w) c.read_talk_line.ensures.reading)
    c.in_ok-answer_reading.ensures.archive)) stopped
