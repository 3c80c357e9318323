use Rattle.khe_told.specs.declared.edits.Edit.TheVariants.{SwapMeets}
use Rattle.followers.proofs.StartLaws.{fault_by}
use Rattle.followers.proofs.editing.edit_swap.Goals as goal

pub returns-in-Err-clause-fault : goal.returns-in-Err-clause-fault
returns-in-Err-clause-fault g c = fault_by c.solution.result.now.parts c.args.engine.now.parts c.args.engine.now.state
    c.solution.result.now.slots c.args.ties.now (SwapMeets c.args.a c.args.b) c.in-Err.refusal
    c.solution.ensures.parts c.solution.ensures.slots (c.in-Err.ensures c.args.engine.now.state.grouping)
