-- The line that refuses the archive is the whole text.
use Rattle.std.proofs.Common.{inr, refl, subst, sym}
use Rattle.reading_commands.specs.Answers.{reading_of}
use Rattle.khe_app.specs.Outcome.{IsConstructIn}
use Rattle.archive_reading.specs.Refusals.{refusal_line}
use Rattle.reading_commands.specs.declared.answers.Answer.{Answer}
use Rattle.khe_app.proofs.constructing.write_construct.Goals as goal

pub returns-in-Refused-clause-written : goal.returns-in-Refused-clause-written
returns-in-Refused-clause-written g c =
    let line = refusal_line c.in-Refused.refusal in
    inr (
      3,
      line,
      subst (λ (a : Answer). IsConstructIn c.args.number c.args.chains (reading_of a) 3 line)
          (sym c.in-Refused.is) (refl, refl),
      c.put_refusal.ensures.written,
    )
