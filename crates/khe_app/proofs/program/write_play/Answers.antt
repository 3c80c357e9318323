-- The line in place of the answers is the whole text.
use Rattle.std.proofs.Common.{inr, refl, subst, sym}
use Rattle.khe_app.specs.Answers.{IsTextOf}
use Rattle.reading_commands.specs.Ends.{Written}
use Rattle.archive_reading.specs.Refusals.{refusal_line}
use Rattle.khe_app.specs.Lines.{script_too_large_line}
use Rattle.khe_app.specs.declared.program.Play.{Play}
use Rattle.khe_app.proofs.program.write_play.Goals as goal

pub returns-in-Refused-clause-written : goal.returns-in-Refused-clause-written
returns-in-Refused-clause-written g c =
    let line = refusal_line c.in-Refused.refusal in
    inr (
      3,
      line,
      subst (λ (a : Play). IsTextOf c.args.tied a 3 line) (sym c.in-Refused.is) (refl, refl),
      c.put_refusal.ensures.written,
    )

pub returns-in-TooLarge-clause-written : goal.returns-in-TooLarge-clause-written
returns-in-TooLarge-clause-written g c =
    inr (
      7,
      script_too_large_line,
      subst (λ (a : Play). IsTextOf c.args.tied a 7 script_too_large_line) (sym c.in-TooLarge.is) (refl, refl),
      subst (λ bytes. Written (g.K.Sink.taken c.args.out.now) (g.K.Sink.taken c.put.new.out)
          (g.K.Sink.faults c.args.out.now) (g.K.Sink.faults c.put.new.out) bytes 7 c.put.result.0)
          c.script_too_large.ensures c.put.ensures.written,
    )
