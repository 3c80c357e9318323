-- The line comes after the archive.
use Rattle.std.proofs.Common.{encode_utf8_all}
use Rattle.repair_run.proofs.SendLaws.{front_of, sent_front}
use Rattle.repair_run.proofs.sending.send_with.Goals as goal
use Rattle.xhstt_writer.specs.Archives.{canonical}

pub returns-in-Ok-clause-front : goal.returns-in-Ok-clause-front
returns-in-Ok-clause-front g c =
    sent_front (g.K.Sink.taken c.args.out.now) (g.K.Sink.taken c.send.new.sink) (g.K.Sink.taken c.put_line.new.out)
    (canonical c.args.archive.now) (encode_utf8_all c.args.line.now) c.put_line.result c.in-Ok.ensures.whole
    c.put_line.ensures.front

pub returns-in-Err-clause-front : goal.returns-in-Err-clause-front
returns-in-Err-clause-front g c =
    front_of (g.K.Sink.taken c.args.out.now) (g.K.Sink.taken c.send.new.sink) (canonical c.args.archive.now)
    (encode_utf8_all c.args.line.now) c.in-Err.ensures.front
