use Rattle.followers.proofs.BarLaws.{barred_some, checked_err, checked_ok}
use Rattle.followers.proofs.bars.check.Goals as goal

pub returns-in-Some : goal.returns-in-Some
returns-in-Some c = λ h. barred_some c.args.solution.now.parts (record { slots = c.args.solution.now.slots; grouping = h })
    c.args.ties.now c.args.edit.now c.in-Some.refusal c.in-Some.ensures

pub returns-in-Ok : goal.returns-in-Ok
returns-in-Ok c = λ h. checked_ok c.args.solution.now.parts (record { slots = c.args.solution.now.slots; grouping = h })
    c.args.ties.now c.args.edit.now _ c.requires c.in_default.ensures c.in-Ok.ensures

pub returns-in-Err : goal.returns-in-Err
returns-in-Err c = λ h. checked_err c.args.solution.now.parts (record { slots = c.args.solution.now.slots; grouping = h })
    c.args.ties.now c.args.edit.now c.in-Err.refusal c.requires c.in_default.ensures c.in-Err.ensures
