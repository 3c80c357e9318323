-- What the commands so far made, and then those of the rest, is what all make.
use Rattle.std.proofs.Common.{◌≡◌, ◌≤◌, ◌+◌, ◌*◌, drop}
use Rattle.archive_generator.specs.Names.{below}
use Rattle.archive_generator.specs.Turns.{gathered}
use Rattle.made_run.specs.Commands as spec
use Rattle.script_run.specs.Steps.{trace_of}
use Rattle.made_run.specs.Courses.{course, course_of, started}
use Rattle.made_run.specs.Steps.{run_steps}
use Rattle.made_run.proofs.running.run_all.Given as goal

abbrev pub invariant-loop-number : goal.invariant-loop-number
invariant-loop-number g l =
    let left = gathered (spec.step l.job.size l.job.slots) (drop l.number (below (10 * l.job.size))) l.draws.state in
    record {
      parts : l.engine.world.parts ≡ l.fn.engine.world.parts;
      course : course l.fn.engine.world.parts (course_of l.engine.world l.counts) left.0
          ≡ course l.fn.engine.world.parts (started l.fn.engine.world.state)
          (spec.drawn_commands l.job.size l.job.slots l.fn.draws.state);
      counted : l.counts.accepted + l.counts.refused ≡ l.number;
      steps : l.steps + l.engine.owed + run_steps l.fn.engine.world.parts (trace_of l.engine.world) left.0
          ≤ l.fn.steps + l.fn.engine.owed + run_steps l.fn.engine.world.parts (trace_of l.fn.engine.world)
          (spec.drawn_commands l.job.size l.job.slots l.fn.draws.state);
    }
