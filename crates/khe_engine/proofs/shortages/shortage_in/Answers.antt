-- The demands were told of the timetable.
use Rattle.std.proofs.Common.{subst, IfOk}
use Rattle.hall_report.specs.Shortages.{IsShortageOf}
use Rattle.khe_engine.proofs.shortages.shortage_in.Goals as goal

pub returns : goal.returns
returns c =
    let p = c.args.inst.now in
    subst (λ s. IfOk c.shortage_of.result (IsShortageOf p s)) c.in_ok-demands.ensures.told
    (c.shortage_of.ensures p c.in_ok-demands.ensures.of)
