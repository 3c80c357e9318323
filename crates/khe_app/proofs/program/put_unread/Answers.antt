-- The line names the refusal that the start has.
use Rattle.std.proofs.Common.{inr}
use Rattle.khe_app.proofs.SolveEnds.{barred_by}
use Rattle.khe_app.proofs.program.put_unread.Goals as goal

pub returns-in-Refused-clause-written : goal.returns-in-Refused-clause-written
returns-in-Refused-clause-written g c = λ s is.
    inr (
      c.in-Refused.refusal,
      barred_by s c.args.unread c.in-Refused.refusal c.in-Refused.is is,
      c.put_refusal.ensures.written,
    )
