use Rattle.followers.proofs.StillLaws.{bar_fault}
use Rattle.followers.proofs.editing.edit_still.Goals as goal

pub returns-in-Some-clause-fault : goal.returns-in-Some-clause-fault
returns-in-Some-clause-fault g c = bar_fault c.args.engine.now.parts c.args.engine.now.state c.solution.result.now.slots
    c.args.ties.now c.args.edit c.in-Some.refusal c.solution.ensures.slots c.in-Some.ensures
