-- The marks before, the edit, and the marks after it.
use Rattle.std.proofs.Common.{◌+◌, arith}
use Rattle.script_run.specs.Steps.{trace_of}
use Rattle.made_run.specs.Courses.{course_of}
use Rattle.made_run.proofs.CourseLaws.{step_course}
use Rattle.made_run.proofs.StepLaws.{edit_steps, step_steps, step_traced}
use Rattle.made_run.proofs.running.step.Goals as goal

pub returns-clause-course : goal.returns-clause-course
returns-clause-course g c =
    let before = c.args.counts.now in
    let now = c.carry_out.new.counts in
    step_course c.args.engine.now.world.parts c.begin_before.new.engine.world.parts c.carry_out.new.engine.world.parts
    c.undo_after.new.engine.world.parts c.args.job.size c.args.job.slots c.args.number c.args.draws.now.state
    c.draw_edit-edit.result (course_of c.args.engine.now.world before) (course_of c.begin_before.new.engine.world before)
    (course_of c.carry_out.new.engine.world now) (course_of c.undo_after.new.engine.world now)
    (course_of c.end_after.new.engine.world now) c.begin_before.ensures.parts c.in_ok-carry_out.ensures.parts
    c.undo_after.ensures.parts c.draw_edit-edit.ensures.value (c.begin_before.ensures.course before)
    c.in_ok-carry_out.ensures.course (c.undo_after.ensures.course now) (c.end_after.ensures.course now)

pub returns-clause-traced : goal.returns-clause-traced
returns-clause-traced g c =
    step_traced c.args.engine.now.world.parts c.begin_before.new.engine.world.parts c.carry_out.new.engine.world.parts
    c.undo_after.new.engine.world.parts c.args.job.size c.args.job.slots c.args.number c.args.draws.now.state
    c.draw_edit-edit.result (trace_of c.args.engine.now.world) (trace_of c.begin_before.new.engine.world)
    (trace_of c.carry_out.new.engine.world) (trace_of c.undo_after.new.engine.world)
    (trace_of c.end_after.new.engine.world) c.begin_before.ensures.parts c.in_ok-carry_out.ensures.parts
    c.undo_after.ensures.parts c.draw_edit-edit.ensures.value c.begin_before.ensures.traced
    c.in_ok-carry_out.ensures.traced c.undo_after.ensures.traced c.end_after.ensures.traced

pub returns-clause-steps : goal.returns-clause-steps
returns-clause-steps g c =
    let begun = c.begin_before.ensures.owed in
    let edited = c.carry_out.ensures.steps in
    let undone = c.undo_after.ensures.steps in
    let ended = c.end_after.ensures.owed in
    step_steps c.args.engine.now.world.parts c.begin_before.new.engine.world.parts c.carry_out.new.engine.world.parts
    c.args.job.size c.args.job.slots c.args.number c.args.draws.now.state c.draw_edit-edit.result
    (trace_of c.args.engine.now.world) (trace_of c.begin_before.new.engine.world)
    (trace_of c.carry_out.new.engine.world) (c.args.steps.now + c.args.engine.now.owed)
    (c.carry_out.new.steps + c.carry_out.new.engine.owed) (c.undo_after.new.steps + c.end_after.new.engine.owed)
    c.begin_before.ensures.parts c.in_ok-carry_out.ensures.parts c.draw_edit-edit.ensures.value
    c.begin_before.ensures.traced c.in_ok-carry_out.ensures.traced (omega (arith, begun, edited))
    (omega (arith, undone, ended))

pub returns-in_err-carry_out-clause-steps : goal.returns-in_err-carry_out-clause-steps
returns-in_err-carry_out-clause-steps g c =
    let begun = c.begin_before.ensures.owed in
    let edited = c.carry_out.ensures.steps in
    edit_steps c.args.engine.now.world.parts c.begin_before.new.engine.world.parts c.args.job.size c.args.job.slots
    c.args.number c.args.draws.now.state c.draw_edit-edit.result (trace_of c.args.engine.now.world)
    (trace_of c.begin_before.new.engine.world) (c.args.steps.now + c.args.engine.now.owed)
    (c.carry_out.new.steps + c.carry_out.new.engine.owed) c.begin_before.ensures.parts c.draw_edit-edit.ensures.value
    c.begin_before.ensures.traced (omega (arith, begun, edited))
