-- A solution more was drawn; after the last one nothing is left.
use Rattle.std.proofs.Common.{ℕ}
use Rattle.archive_generator.specs.Job as spec
use Rattle.archive_generator.specs.Names.{below}
use Rattle.archive_generator.proofs.ListLemmas.{drop_below, turn_value, turn_state, turn_end_value, turn_end_state}
use Rattle.archive_generator.proofs.drawing.draw_solutions.Goals as goal

pub loop-number-preserved : goal.loop-number-preserved
loop-number-preserved c =
    let n = c.loop-number.number in
    let step = λ (i y : ℕ). spec.solution c.args.size c.args.events.now y in
    let e = c.in_ok-draw_solution.ensures in
    let left = drop_below 4 n c.loop-number-test.true in
    record {
      value = turn_value step (below 4) n n c.loop-number.draws.state c.draw_solution.new.draws.state
          c.in_ok-draw_solution.field-0 c.loop-number.solutions c.push.new.self _ c.in_ok-push.ensures.ok left e.value
          e.state c.loop-number.invariant.value;
      state = turn_state step (below 4) n n c.loop-number.draws.state c.draw_solution.new.draws.state _ left e.state
          c.loop-number.invariant.state;
    }

pub returns-clause-value : goal.returns-clause-value
returns-clause-value c =
    let step = λ (i y : ℕ). spec.solution c.args.size c.args.events.now y in
    turn_end_value step 4 c.loop-number.number c.loop-number.draws.state c.loop-number.solutions _
    c.loop-number-test.false c.loop-number.invariant.value

pub returns-clause-state : goal.returns-clause-state
returns-clause-state c =
    let step = λ (i y : ℕ). spec.solution c.args.size c.args.events.now y in
    turn_end_state step 4 c.loop-number.number c.loop-number.draws.state _ c.loop-number-test.false
    c.loop-number.invariant.state
