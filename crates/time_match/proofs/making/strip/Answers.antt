-- Each task is stripped, or has nothing.
use Rattle.std.proofs.Common.{◌≡◌, ◌+◌, true, false, get_or, refl, subst, sym, ◌∙◌, arith, List}
use Rattle.khe_engine.specs.Worlds.{World}
use Rattle.khe_solution.specs.Reading.{has_place}
use Rattle.khe_told.specs.Slots.{slot_at}
use Rattle.khe_told.specs.declared.slots.Slot.{Slot}
use Rattle.time_match.specs.Costs.{no_task}
use Rattle.time_match.proofs.StripLaws.{IsStripped, has_any, strip_accepted, strip_begun, strip_done, strip_next}
use Rattle.time_match.proofs.StripLaws.{strip_open, strip_passed, takes}
use Rattle.time_match.proofs.making.strip.Goals as goal
use Rattle.time_match.proofs.making.strip.Goals.{then-is_some, else-is_some}

pub loop-task-init : goal.loop-task-init
loop-task-init g c = strip_begun c.args.engine.now c.args.tasks.now c.requires.free

pub resource-requires : goal.resource-requires
resource-requires g c =
    let t = get_or c.args.tasks.now c.loop-task.task-index no_task in
    let o = strip_open c.args.engine.now c.loop-task.engine c.args.tasks.now c.loop-task.task-index t no_task
    c.loop-task.invariant c.loop-task-test.true refl in
    subst (λ (xs : List Slot). has_place (slot_at xs t.meet.0) t.place ≡ true) (sym c.solution.ensures.slots) o.1.there

pub make-requires-clause-accepted : goal.make-requires-clause-accepted
make-requires-clause-accepted g c =
    let t = get_or c.args.tasks.now c.loop-task.task-index no_task in
    strip_accepted c.args.engine.now c.loop-task.engine c.args.tasks.now c.loop-task.task-index t no_task
    c.loop-task.invariant c.loop-task-test.true refl
    (has_any _ c.loop-task.engine.state.slots t c.resource.result c.is_some.result true c.solution.ensures.slots
    c.resource.ensures c.is_some.ensures c.if-is_some.true)

pub loop-task-preserved : goal.loop-task-preserved
loop-task-preserved g c =
    let w = c.args.engine.now in
    let v = c.loop-task.engine in
    let ts = c.args.tasks.now in
    let k = c.loop-task.task-index in
    let t = get_or ts k no_task in
    let P = λ (u : World). IsStripped w u ts (k + 1) in
    elim c.if-is_some.branch [
      | then-is_some x ↦ subst P (sym x.engine-is)
          (strip_next w v x.make.new.engine ts k t no_task c.loop-task.invariant c.loop-task-test.true refl
          x.make.ensures.parts
          (x.make.ensures.state ∙ takes v.state t
          (has_any _ v.state.slots t c.resource.result c.is_some.result true c.solution.ensures.slots
          c.resource.ensures c.is_some.ensures x.if-is_some.true))
          x.make.ensures.inside x.make.ensures.spare)
      | else-is_some x ↦ subst P (sym x.engine-is)
          (strip_passed w v ts k t no_task c.loop-task.invariant c.loop-task-test.true refl
          (has_any _ v.state.slots t c.resource.result c.is_some.result false c.solution.ensures.slots
          c.resource.ensures c.is_some.ensures x.if-is_some.false))
    ]

pub returns-clause-state : goal.returns-clause-state
returns-clause-state g c =
    let low = c.loop-task.auto.task-index-end in
    let end = c.loop-task-test.false in
    strip_done c.args.engine.now c.loop-task.engine c.args.tasks.now c.loop-task.task-index c.loop-task.invariant
    (omega (arith, low, end))
