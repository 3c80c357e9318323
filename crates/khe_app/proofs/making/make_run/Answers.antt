-- What was written, or nothing.
use Rattle.std.proofs.Common.{refl}
use Rattle.khe_app.proofs.EndsLemmas.{end_starved}
use Rattle.khe_app.proofs.MakeEnds.{end_running, running_not_two}
use Rattle.khe_app.proofs.making.make_run.Goals as goal

pub returns-in-Ok-clause-end : goal.returns-in-Ok-clause-end
returns-in-Ok-clause-end g c = λ h sound faults.
    end_running h c.args.seed c.args.size sound faults _ _ _ _ c.run_made-status.result.0 c.run_made-status.ensures.written

pub returns-in-Ok-clause-status : goal.returns-in-Ok-clause-status
returns-in-Ok-clause-status g c = running_not_two c.args.seed c.args.size _ _ _ _ c.run_made-status.result.0
    c.run_made-status.ensures.written

pub returns-in-Err-clause-end : goal.returns-in-Err-clause-end
returns-in-Err-clause-end g c = λ h sound faults. end_starved _ h sound faults faults _ _ _ _ _ refl refl
