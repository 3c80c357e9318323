use Rattle.std.proofs.Common.{None}
use Rattle.followers.specs.Records.{states_of}
use Rattle.followers.specs.declared.edits.TiedEdit.TheVariants as edit
use Rattle.followers.proofs.TieLaws.{fault_moved, refusal_of}
use Rattle.followers.proofs.UntieLaws.{untied_kept}
use Rattle.followers.proofs.editing.loosen.Goals as goal

pub returns-in-Ok-clause-kept : goal.returns-in-Ok-clause-kept
returns-in-Ok-clause-kept g c = untied_kept c.args.engine.now.parts c.args.engine.now.state c.args.ties.now
    c.untie.new.ties (states_of c.args.engine.now.saved) c.args.journal.now.since c.untie.new.journal.since c.args.meet
    c.in-Ok.ensures.there c.in-Ok.ensures.ties c.in-Ok.ensures.since c.requires.kept

pub returns-in-Ok-clause-accepted : goal.returns-in-Ok-clause-accepted
returns-in-Ok-clause-accepted g c = refusal_of c.solution.result.now.parts c.args.engine.now.parts
    c.args.engine.now.state c.solution.result.now.slots c.args.ties.now (edit.Untie c.args.meet) None
    c.solution.ensures.parts c.solution.ensures.slots (c.in-Ok.ensures.accepted c.args.engine.now.state.grouping)

pub returns-in-Err-clause-fault : goal.returns-in-Err-clause-fault
returns-in-Err-clause-fault g c = fault_moved c.solution.result.now.parts c.args.engine.now.parts
    c.args.engine.now.state c.solution.result.now.slots c.args.ties.now (edit.Untie c.args.meet) c.in-Err.fault
    c.solution.ensures.parts c.solution.ensures.slots (c.in-Err.ensures.fault c.args.engine.now.state.grouping)
