-- The engine's instance is the one that it was opened on, and the draws are those after the archive's.
use Rattle.std.proofs.Common.{◌≡◌, subst}
use Rattle.std.specs.Prelude.{IfOk}
use Rattle.khe_engine.specs.Worlds.{World}
use Rattle.made_run.specs.Commands.{drawn_commands}
use Rattle.made_run.specs.Courses.{course, started}
use Rattle.made_run.specs.Lines.{made_line}
use Rattle.made_run.proofs.RunLaws.{is_run}
use Rattle.made_run.proofs.running.run_line.Goals as goal

pub returns : goal.returns
returns g c =
    let e = c.in_ok-engine.engine in
    let seed = c.args.job.seed in
    let size = c.args.job.size in
    let commands = drawn_commands size c.args.job.slots c.args.draws.now.state in
    is_run c.run_on.result seed size c.args.job.slots c.args.draws.now.state c.args.inst.now e.parts c.args.plain.now
    e.state c.in_ok-engine.ensures.parts c.in_ok-engine.ensures.state c.requires.job.counted c.requires.drawn
    (subst (λ (w : World). IfOk c.run_on.result
    (λ t. t ≡ made_line seed size w.parts (course w.parts (started w.state) commands))) c.put_off.ensures.same c.run_on.ensures)
