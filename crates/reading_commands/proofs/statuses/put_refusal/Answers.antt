-- The line is the whole text.
use Rattle.std.proofs.Common.{◌∙◌, ap, subst, encode_utf8_all}
use Rattle.reading_commands.specs.Ends.{Written}
use Rattle.reading_commands.proofs.statuses.put_refusal.Goals as goal

pub returns-in-Ok-clause-written : goal.returns-in-Ok-clause-written
returns-in-Ok-clause-written g c =
    subst (λ bytes. Written (g.K.Sink.taken c.args.out.now) (g.K.Sink.taken c.put.new.out)
    (g.K.Sink.faults c.args.out.now) (g.K.Sink.faults c.put.new.out) bytes 3 c.put.result.0)
    (c.as_bytes.ensures ∙ ap encode_utf8_all c.in-Ok.ensures) c.put.ensures.written
