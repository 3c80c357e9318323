-- What the engine makes of its marks is what the command makes of the play.
use Rattle.made_run.proofs.CourseLaws.{end_course}
use Rattle.script_run.proofs.StepLaws.{traced_end}
use Rattle.made_run.proofs.marks.end.Goals as goal

pub returns-clause-course : goal.returns-clause-course
returns-clause-course g c = λ n.
    let e = c.end-done.ensures in
    end_course c.args.engine.now.world.parts c.args.engine.now.world c.end-done.new.self.world n e.state e.saved

pub returns-clause-traced : goal.returns-clause-traced
returns-clause-traced g c =
    let e = c.end-done.ensures in
    traced_end c.args.engine.now.world.parts c.args.engine.now.world c.end-done.new.self.world e.state e.saved
