-- The repair begins at the mark, and the undo leads back there.
use Rattle.std.proofs.Common.{ap, length, subst, ◌∙◌, arith}
use Rattle.ejection_repair.specs.Kept.{states}
use Rattle.khe_instance.specs.States.{IsValid}
use Rattle.khe_instance.specs.declared.parts.Parts.{Parts}
use Rattle.parallel_repair.proofs.JobLemmas.{job_is, one_left}
use Rattle.parallel_repair.proofs.jobs.run_job.Goals as goal

pub repair_inside-requires-clause-marks : goal.repair_inside-requires-clause-marks
repair_inside-requires-clause-marks g c =
    let one = ap length c.requires.marked.saved in omega (arith, one, c.requires.depth.1)

pub go_back-requires : goal.go_back-requires
go_back-requires g c =
    one_left _ c.args.engine.now.state (c.repair_inside.ensures.saved ∙ ap states c.requires.marked.saved)

pub returns-clause-answer : goal.returns-clause-answer
returns-clause-answer g c =
    let w = c.args.engine.now in
    job_is w.parts _ w.state _ c.args.depth c.args.budget c.args.job c.in_ok-answer.answer c.repair_inside.ensures.parts
    c.in_ok-repair_inside.ensures.state c.in_ok-answer.ensures.answer

pub returns-clause-marked : goal.returns-clause-marked
returns-clause-marked g c =
    c.go_back.ensures.marked c.args.engine.now.state
    (c.repair_inside.ensures.saved ∙ ap states c.requires.marked.saved)

pub returns-clause-valid : goal.returns-clause-valid
returns-clause-valid g c =
    subst (λ (p : Parts). IsValid p c.in_ok-answer.answer.plain) c.repair_inside.ensures.parts
    c.in_ok-answer.ensures.valid
