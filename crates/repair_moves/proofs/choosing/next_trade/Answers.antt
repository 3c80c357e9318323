use Rattle.std.proofs.Common.{true, sym, ap, ◌∙◌, arith}
use Rattle.std.specs.Prelude.{not}
use Rattle.repair_moves.specs.Moves.{is_accepted, is_choice}
use Rattle.repair_moves.specs.declared.parts.Part.TheVariants.{TradeMoves}
use Rattle.repair_moves.proofs.ChoiceLaws as laws
use Rattle.repair_moves.proofs.PickedLaws.{none_more, none_on}
use Rattle.repair_moves.proofs.choosing.next_trade.Goals as goal
use Rattle.repair_moves.specs.Items.{task_slots}
use Rattle.khe_told.specs.declared.edits.Edit.TheVariants.{SwapTasks}

pub returns-in_err-own-clause-next : goal.returns-in_err-own-clause-next
returns-in_err-own-clause-next c = rw c.from_residual.ensures
    (λ k a b. laws.trade_dead c.args.inst.now c.args.solution.now.slots c.args.point c.args.item k
    (laws.dead_at c.args.inst.now c.args.solution.now.slots c.args.item c.args.task c.requires.task
    c.in_err-own.ensures))

pub returns-then-is_fixed_place-clause-next : goal.returns-then-is_fixed_place-clause-next
returns-then-is_fixed_place-clause-next c = λ k a b. laws.trade_fixed c.args.inst.now c.args.solution.now.slots
    c.args.point c.args.item k (laws.fixed_at c.args.inst.now c.args.solution.now.slots c.args.item
    c.args.task c.in_ok-own.own.event true c.requires.task c.in_ok-own.ensures.event
    (sym c.is_fixed_place.ensures ∙ c.if-is_fixed_place.true))

pub returns-then-is_none-clause-next : goal.returns-then-is_none-clause-next
returns-then-is_none-clause-next c = λ k a b. laws.trade_bare c.args.inst.now c.args.solution.now.slots c.args.point
    c.args.item k (laws.bare_at c.args.inst.now c.args.solution.now.slots c.args.item c.args.task
    c.resource_at.result c.requires.task c.resource_at.ensures
    (laws.none_unless c.resource_at.result (c.is_none.ensures ∙ ap not c.if-is_none.true)))

pub returns-then-accepts-clause-next : goal.returns-then-accepts-clause-next
returns-then-accepts-clause-next c =
    let p = c.args.inst.now in
    let s = c.args.solution.now.slots in
    let e = c.in-Some.ensures in
    let o = c.loop-other.invariant.onward in
    let f = e.0 in (
      omega (arith, o, f),
      e.1,
      laws.TradeMoves_is p s c.args.point c.args.item c.in-Some.other.slot
          ∙ (λ i. is_accepted p s (SwapTasks (sym c.requires.task i) (sym e.4 i)))
          ∙ sym c.accepts.ensures ∙ c.if-accepts.true,
      none_on (is_choice p s c.args.point TradeMoves c.args.item) c.args.from c.loop-other.next c.in-Some.other.slot
          c.loop-other.invariant.none (λ k a b. laws.trade_apart p s c.args.point c.args.item k (e.3 k a b)),
      e.4,
    )

pub returns-then-accepts-clause-small : goal.returns-then-accepts-clause-small
returns-then-accepts-clause-small c =
    let l = c.in-Some.ensures.1 in let limit = c.facts.ensures.made.limits.tasks in omega (arith, l, limit)

pub overflow_add-next : goal.overflow_add-next
overflow_add-next c =
    let l = c.in-Some.ensures.1 in let limit = c.facts.ensures.made.limits.tasks in omega (arith, l, limit)

pub loop-other-preserved : goal.loop-other-preserved
loop-other-preserved c =
    let p = c.args.inst.now in
    let s = c.args.solution.now.slots in
    let test = is_choice p s c.args.point TradeMoves c.args.item in
    let e = c.in-Some.ensures in
    let o = c.loop-other.invariant.onward in
    let f = e.0 in
    record {
      onward = omega (arith, o, f);
      none = none_more test c.args.from c.in-Some.other.slot
          (none_on test c.args.from c.loop-other.next c.in-Some.other.slot c.loop-other.invariant.none
          (λ k a b. laws.trade_apart p s c.args.point c.args.item k (e.3 k a b)))
          (laws.TradeMoves_is p s c.args.point c.args.item c.in-Some.other.slot
          ∙ (λ i. is_accepted p s (SwapTasks (sym c.requires.task i) (sym e.4 i)))
          ∙ sym c.accepts.ensures ∙ c.if-accepts.false);
    }

pub loop-other-smaller : goal.loop-other-smaller
loop-other-smaller c = let e = c.in-Some.ensures in let f = e.0 in let l = e.1 in omega (arith, f, l)

pub returns-clause-next : goal.returns-clause-next
returns-clause-next c =
    none_on (is_choice c.args.inst.now c.args.solution.now.slots c.args.point TradeMoves c.args.item) c.args.from
    c.loop-other.next (task_slots c.args.inst.now) c.loop-other.invariant.none
    (λ k a b. laws.trade_apart c.args.inst.now c.args.solution.now.slots c.args.point c.args.item k
    (c.in_default.ensures k a b))
