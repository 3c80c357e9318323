-- What the engine makes of its marks is what the command makes of the play.
use Rattle.std.proofs.Common.{◌+◌}
use Rattle.made_run.proofs.CourseLaws.{undo_course}
use Rattle.script_run.proofs.StepLaws.{steps_undo, traced_undo}
use Rattle.made_run.proofs.marks.undo.Goals as goal

pub returns-clause-course : goal.returns-clause-course
returns-clause-course g c = λ n.
    let e = c.undo-done.ensures in
    undo_course c.args.engine.now.world.parts c.args.engine.now.world c.undo-done.new.self.world c.undo-done.result n e.refused e.only
    e.ok e.err

pub returns-clause-traced : goal.returns-clause-traced
returns-clause-traced g c =
    let e = c.undo-done.ensures in
    traced_undo c.args.engine.now.world.parts c.args.engine.now.world c.undo-done.new.self.world c.undo-done.result e.refused e.only e.ok
    e.err

pub returns-clause-steps : goal.returns-clause-steps
returns-clause-steps g c = steps_undo c.args.engine.now.world.parts c.args.engine.now.world
    (c.args.steps.now + c.args.engine.now.owed) (c.undo-done.new.steps + c.undo-done.new.self.owed) c.undo-done.ensures.steps
