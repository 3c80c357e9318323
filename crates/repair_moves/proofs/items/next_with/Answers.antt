use Rattle.repair_moves.proofs.ItemLaws as laws
use Rattle.repair_moves.proofs.items.next_with.Goals as goal

pub returns-in_err-task : goal.returns-in_err-task
returns-in_err-task c = rw c.from_residual.ensures
    (laws.no_meet_with c.args.inst.now c.args.solution.now.slots c.args.rule.now c.args.resource c.args.from _
    c.in_err-task.ensures)

pub returns : goal.returns
returns c =
    let t = c.in_ok-task.task in
    let e = c.in_ok-task.ensures in
    laws.first_meet_with c.args.inst.now c.args.solution.now.slots c.args.rule.now c.args.resource c.args.from t
    c.facts.ensures.made c.facts.ensures.valid.told e.0 e.1 e.2
