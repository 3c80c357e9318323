-- What the engine makes of its marks is what the command makes of the play.
use Rattle.made_run.proofs.CourseLaws.{begin_course}
use Rattle.script_run.proofs.StepLaws.{traced_begin}
use Rattle.made_run.proofs.marks.begin.Goals as goal

pub returns-clause-course : goal.returns-clause-course
returns-clause-course g c = λ n.
    let e = c.begin-done.ensures in
    begin_course c.args.engine.now.world.parts c.args.engine.now.world c.begin-done.new.self.world c.begin-done.result n e.refused
    e.only e.state e.ok e.err

pub returns-clause-traced : goal.returns-clause-traced
returns-clause-traced g c =
    let e = c.begin-done.ensures in
    traced_begin c.args.engine.now.world.parts c.args.engine.now.world c.begin-done.new.self.world c.begin-done.result e.refused e.only
    e.state e.ok e.err
