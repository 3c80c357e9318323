-- The sink was empty, so it has the answer.
use Rattle.script_run.specs.Plays.{play_of}
use Rattle.talk_run.specs.Answers.{answered, archive_bytes}
use Rattle.talk_run.specs.Lines.{talk_reading}
use Rattle.khe_session.proofs.LineLaws.{took_all}
use Rattle.khe_session.proofs.answers.answer_into.Goals as goal

pub returns-in-Ok-clause-answered : goal.returns-in-Ok-clause-answered
returns-in-Ok-clause-answered g c =
    let s = c.args.speaker.now in
    let p = s.engine.parts in
    took_all c.emptied-sink.result.bytes.items c.answer_bare.new.out.bytes.items
    (answered (archive_bytes s.archive s.solution p) p (play_of s.engine) c.args.number (talk_reading c.args.line.now))
    c.emptied-sink.ensures.sink c.in-Ok.ensures.answered
