-- The line is the whole text.
use Rattle.std.proofs.Common.{inr, subst}
use Rattle.reading_commands.specs.Ends.{Written}
use Rattle.khe_app.proofs.making.put_run.Goals as goal

pub returns-in-Ok-clause-written : goal.returns-in-Ok-clause-written
returns-in-Ok-clause-written g c =
    inr (
      c.in-Ok.line,
      c.in-Ok.ensures,
      subst (λ bytes. Written (g.K.Sink.taken c.args.out.now) (g.K.Sink.taken c.put.new.out)
          (g.K.Sink.faults c.args.out.now) (g.K.Sink.faults c.put.new.out) bytes 0 c.put.result.0)
          c.as_bytes.ensures c.put.ensures.written,
    )
