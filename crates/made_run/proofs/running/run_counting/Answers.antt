-- The line is on the course that the run took.
use Rattle.std.proofs.Common.{◌≡◌, subst}
use Rattle.std.specs.Prelude.{IfOk}
use Rattle.khe_engine.specs.Worlds.{World}
use Rattle.made_run.specs.Courses.{course, course_of, started}
use Rattle.made_run.specs.Commands.{drawn_commands}
use Rattle.made_run.specs.Lines.{made_line}
use Rattle.made_run.proofs.RunLaws.{same_line}
use Rattle.made_run.proofs.running.run_counting.Goals as goal

pub returns-clause-line : goal.returns-clause-line
returns-clause-line g c =
    let p = c.args.engine.world.parts in
    let seed = c.args.job.seed in
    let size = c.args.job.size in
    let counts = c.in_ok-counts.counts in
    let line = subst (λ (w : World). IfOk c.line_on.result (λ t. t ≡ made_line seed size w.parts (course_of w counts)))
    c.caught_up-engine.ensures.same c.line_on.ensures in
    same_line c.line_on.result seed size p c.run_all.new.engine.world.parts
    (course p (started c.args.engine.world.state) (drawn_commands size c.args.job.slots c.args.draws.now.state))
    (course_of c.run_all.new.engine.world counts) c.in_ok-counts.ensures.parts c.in_ok-counts.ensures.course line
