use Rattle.std.proofs.Common.{◌≡◌, ◌+◌, sym, ◌∙◌, arith, inl, inr}
use Rattle.repair_moves.specs.Items.{is_task_in}
use Rattle.repair_moves.proofs.ItemLaws as laws
use Rattle.repair_moves.proofs.TaskLaws as tasks
use Rattle.repair_moves.proofs.items.next_task_named.Goals as goal
use Rattle.std.proofs.lemmas.Bool.{cases_lt}
use Rattle.khe_solution.proofs.NumberLaws.{order_of}
use Rattle.repair_moves.proofs.PickedLaws.{false_unless}
use Rattle.khe_solution.proofs.Basics.{true-false}

pub returns-in-Some-next_place : goal.returns-in-Some-next_place
returns-in-Some-next_place c =
    let at = c.loop-meet.at in
    let m = c.in-Some.meet in
    let far = c.in-Some.ensures.0 in
    let found = c.in-Some-next_place.ensures in
    let k = found.0 in (
      tasks.reached c.args.from at m c.in-Some-next_place.place c.loop-meet.invariant.onward far
          (λ e. (let h = c.place_from-start.ensures.here e in omega (arith, h, k))),
      found.1,
      tasks.none_between (is_task_in c.args.inst.now c.args.solution.now.slots c.args.rule.now c.args.point) c.args.from
          at m c.in-Some-next_place.place c.loop-meet.invariant.none
          (λ u f l. laws.task_unnamed c.args.inst.now c.args.solution.now.slots c.args.rule.now c.args.point u
          c.requires.named (c.in-Some.ensures.3 u.meet.0 (tasks.from_meet at u f) l))
          (λ u f e l. laws.place_told c.args.inst.now c.args.solution.now.slots c.args.rule.now c.args.point u m e
          (found.2 u.place (tasks.start_low c.loop-meet.at u m c.place_from-start.result far
          c.place_from-start.ensures.here c.place_from-start.ensures.later e f) l)),
    )

pub overflow_add-at : goal.overflow_add-at
overflow_add-at c = let l = c.in-Some.ensures.1 in let d = c.facts.ensures.made.limits.duration in omega (arith, l, d)

pub loop-meet-preserved : goal.loop-meet-preserved
loop-meet-preserved c =
    let at = c.loop-meet.at in
    let m = c.in-Some.meet in
    let far = c.in-Some.ensures.0 in
    record {
      onward = tasks.reached c.args.from at (m + 1) 0 c.loop-meet.invariant.onward (omega (arith, far))
          (λ e. absurd (omega (arith, far, e)));
      none = tasks.none_between (is_task_in c.args.inst.now c.args.solution.now.slots c.args.rule.now c.args.point)
          c.args.from at (m + 1) 0 c.loop-meet.invariant.none
          (λ u f l. elim (cases_lt u.meet.0 m) [
            | inl b ↦ laws.task_unnamed c.args.inst.now c.args.solution.now.slots c.args.rule.now c.args.point u
                c.requires.named (c.in-Some.ensures.3 u.meet.0 (tasks.from_meet at u f) b)
            | inr b ↦ (let e : u.meet.0 ≡ m = omega (arith, b, l) in
                laws.place_told c.args.inst.now c.args.solution.now.slots c.args.rule.now c.args.point u m e
                (c.in_default-next_place.ensures u.place (tasks.start_low c.loop-meet.at u m c.place_from-start.result
                far c.place_from-start.ensures.here c.place_from-start.ensures.later e f)))
          ])
          (λ u f e l. absurd (omega (arith, l)));
    }

pub returns : goal.returns
returns c =
    λ u f. elim (order_of u c.loop-meet.at) [
      | inl b ↦ c.loop-meet.invariant.none u f b
      | inr b ↦ false_unless _ (λ t. (let l = laws.task_below c.args.inst.now c.args.solution.now.slots c.args.rule.now
          c.args.point u c.facts.ensures.made c.facts.ensures.valid.told t in
          true-false (sym t ∙ laws.task_unnamed c.args.inst.now c.args.solution.now.slots c.args.rule.now c.args.point u
          c.requires.named (c.in_default.ensures u.meet.0 (tasks.from_meet c.loop-meet.at u b) l))))
    ]
