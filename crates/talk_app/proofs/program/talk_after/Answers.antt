-- The line that refuses the archive stands in place of all answers.
use Rattle.std.proofs.Common.{encode_utf8_all, refl, subst, sym}
use Rattle.reading_commands.specs.Answers.{reading_of}
use Rattle.archive_reading.specs.Refusals.{refusal_line}
use Rattle.reading_commands.specs.declared.answers.Answer.{Answer}
use Rattle.talk_app.specs.Outcome.{IsTalkIn}
use Rattle.talk_app.proofs.EndLaws.{line_end}
use Rattle.talk_app.proofs.program.talk_after.Goals as goal

pub returns-in-Refused-clause-end : goal.returns-in-Refused-clause-end
returns-in-Refused-clause-end g c =
    let line = encode_utf8_all (refusal_line c.in-Refused.refusal) in
    line_end (IsTalkIn c.args.solution (reading_of c.args.answer)) (g.R.Read.remaining c.args.lines.now.reader)
    (g.K.Sink.taken c.args.out.now) (g.K.Sink.taken c.put_refusal.new.out) (g.K.Sink.faults c.args.out.now)
    (g.K.Sink.faults c.put_refusal.new.out) line 3 c.put_refusal.result.0
    (λ input. subst (λ (a : Answer). IsTalkIn c.args.solution (reading_of a) input 3 line) (sym c.in-Refused.is)
    (refl, refl)) c.put_refusal.ensures.written
