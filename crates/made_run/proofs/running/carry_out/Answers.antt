-- What the engine makes of an edit, and what is counted, is what the command makes of the course.
use Rattle.std.proofs.Common.{◌+◌, refl}
use Rattle.khe_engine.specs.States.{changes, refusal}
use Rattle.made_run.proofs.CourseLaws.{accepted_course, fault_refused, refused_course}
use Rattle.script_run.proofs.StepLaws.{steps_edit, traced_edit, traced_refused}
use Rattle.made_run.proofs.running.carry_out.Goals as goal

pub returns-in-Ok-clause-course : goal.returns-in-Ok-clause-course
returns-in-Ok-clause-course g c =
    let w = c.args.engine.now.world in
    let n = c.args.counts.now in
    let e = c.in-Ok.ensures in
    accepted_course w.parts w c.edit.new.self.world c.args.edit (changes w.state c.args.edit) n
    (record { accepted = n.accepted + 1; refused = n.refused }) e.accepted e.state e.saved refl refl

pub returns-in-Err-Refused-clause-course : goal.returns-in-Err-Refused-clause-course
returns-in-Err-Refused-clause-course g c =
    let w = c.args.engine.now.world in
    let n = c.args.counts.now in
    let e = c.in-Err-Refused.ensures in
    let x = c.in-Err-Refused.field-0-0 in
    refused_course w.parts w c.edit.new.self.world c.args.edit x n
    (record { accepted = n.accepted; refused = n.refused + 1 })
    (fault_refused (refusal w.parts w.state c.args.edit) c.in-Err-Refused.field-0 x e.fault c.in-Err-Refused.field-0-is)
    e.err.0 e.err.1 refl refl

pub returns-in-Ok-clause-traced : goal.returns-in-Ok-clause-traced
returns-in-Ok-clause-traced g c =
    let w = c.args.engine.now.world in
    let e = c.in-Ok.ensures in
    traced_edit w.parts w c.edit.new.self.world c.args.edit e.accepted e.state e.saved

pub returns-in-Ok-clause-steps : goal.returns-in-Ok-clause-steps
returns-in-Ok-clause-steps g c =
    let w = c.args.engine.now.world in
    let e = c.in-Ok.ensures in
    steps_edit w.parts w c.args.edit (c.args.steps.now + c.args.engine.now.owed) (c.edit.new.steps + c.edit.new.self.owed)
    e.accepted e.steps

pub returns-in-Err-Refused-clause-traced : goal.returns-in-Err-Refused-clause-traced
returns-in-Err-Refused-clause-traced g c =
    let w = c.args.engine.now.world in
    let e = c.in-Err-Refused.ensures in
    let x = c.in-Err-Refused.field-0-0 in
    traced_refused w.parts w c.edit.new.self.world c.args.edit x
    (fault_refused (refusal w.parts w.state c.args.edit) c.in-Err-Refused.field-0 x e.fault c.in-Err-Refused.field-0-is)
    e.err.0 e.err.1
