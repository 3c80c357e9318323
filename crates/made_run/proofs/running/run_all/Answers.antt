-- One number more; after the last one nothing is left.
use Rattle.std.proofs.Common.{◌≡◌, ◌+◌, ◌*◌, ◌∙◌, ap, arith, refl}
use Rattle.khe_instance.specs.declared.parts.Parts.{Parts}
use Rattle.archive_generator.specs.Names.{below}
use Rattle.archive_generator.proofs.ListLemmas.{drop_below}
use Rattle.made_run.specs.Commands as spec
use Rattle.made_run.specs.Courses.{course, course_of}
use Rattle.script_run.specs.Steps.{trace_of}
use Rattle.made_run.proofs.RunLaws.{begin_run, end_run, next_course}
use Rattle.made_run.proofs.StepLaws.{begin_steps, next_steps, stopped_steps}
use Rattle.made_run.proofs.running.run_all.Goals as goal

pub loop-number-init : goal.loop-number-init
loop-number-init g c = record {
  parts = refl;
  course = begin_run c.args.engine.now.world (record { accepted = 0; refused = 0 }) c.args.job.size c.args.job.slots
      c.args.draws.now.state c.requires.marks refl refl;
  counted = refl;
  steps = begin_steps c.args.engine.now.world.parts (trace_of c.args.engine.now.world) c.args.job.size c.args.job.slots
      c.args.draws.now.state (c.args.steps.now + c.args.engine.now.owed);
}

pub loop-number-preserved : goal.loop-number-preserved
loop-number-preserved g c =
    let n = c.loop-number.number in
    let before = c.loop-number.invariant in
    let e = c.in_ok-step.ensures in
    let p = c.args.engine.now.world.parts in
    let one : course_of c.step.new.engine.world c.step.new.counts
    ≡ course p (course_of c.loop-number.engine.world c.loop-number.counts)
    (spec.step c.args.job.size c.args.job.slots n c.loop-number.draws.state).0 =
    e.course ∙ ap (λ (q : Parts). course q (course_of c.loop-number.engine.world c.loop-number.counts)
    (spec.step c.args.job.size c.args.job.slots n c.loop-number.draws.state).0) before.parts in
    record {
      parts = e.parts ∙ before.parts;
      course = next_course p (spec.step c.args.job.size c.args.job.slots) (below (10 * c.args.job.size)) n n
          c.loop-number.draws.state c.step.new.draws.state (course_of c.loop-number.engine.world c.loop-number.counts)
          (course_of c.step.new.engine.world c.step.new.counts) _
          (drop_below (10 * c.args.job.size) n c.loop-number-test.true) one e.state before.course;
      counted = e.counted ∙ ap (λ k. k + 1) before.counted;
      steps = next_steps p c.loop-number.engine.world.parts (spec.step c.args.job.size c.args.job.slots)
          (below (10 * c.args.job.size)) n n c.loop-number.draws.state c.step.new.draws.state
          (trace_of c.loop-number.engine.world) (trace_of c.step.new.engine.world)
          (c.loop-number.steps + c.loop-number.engine.owed) (c.step.new.steps + c.step.new.engine.owed) _
          (drop_below (10 * c.args.job.size) n c.loop-number-test.true) before.parts e.traced e.state
          c.step.ensures.steps before.steps;
    }

pub returns-clause-course : goal.returns-clause-course
returns-clause-course g c =
    end_run c.args.engine.now.world.parts (spec.step c.args.job.size c.args.job.slots) (10 * c.args.job.size)
    c.loop-number.number c.loop-number.draws.state (course_of c.loop-number.engine.world c.loop-number.counts) _
    c.loop-number-test.false c.loop-number.invariant.course

pub returns-clause-steps : goal.returns-clause-steps
returns-clause-steps g c = let all = c.loop-number.invariant.steps in omega (arith, all)

pub returns-in_err-step-clause-steps : goal.returns-in_err-step-clause-steps
returns-in_err-step-clause-steps g c =
    let n = c.loop-number.number in
    let before = c.loop-number.invariant in
    stopped_steps c.args.engine.now.world.parts c.loop-number.engine.world.parts
    (spec.step c.args.job.size c.args.job.slots) (below (10 * c.args.job.size)) n n c.loop-number.draws.state
    (trace_of c.loop-number.engine.world) (c.loop-number.steps + c.loop-number.engine.owed)
    (c.step.new.steps + c.step.new.engine.owed) _ (drop_below (10 * c.args.job.size) n c.loop-number-test.true)
    before.parts c.step.ensures.steps before.steps
