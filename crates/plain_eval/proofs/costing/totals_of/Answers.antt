-- At each turn one cost joins the totals.
use Rattle.std.proofs.Common.{ℕ, ◌≤◌, ◌+◌, ◌∙◌, Bool, true, false, sym, arith, get_or, slice_index}
use Rattle.std.proofs.Common.{if◌then◌else◌}
use Rattle.khe_base.specs.declared.limits.TheConstants.{GREATEST_COST}
use Rattle.khe_instance.proofs.SumsLemmas.{sum_by_range_more}
use Rattle.khe_instance.specs.Costs.{is_hard_at}
use Rattle.plain_eval.proofs.costing.totals_of.Goals as goal

part : (b : Bool) (n : ℕ) → (if b then n else 0) ≤ n
part true n = omega arith
part false n = omega arith

other_part : (b : Bool) (n : ℕ) → (if b then 0 else n) ≤ n
other_part true n = omega arith
other_part false n = omega arith

pub loop-number-preserved : goal.loop-number-preserved
loop-number-preserved c =
    let p = c.args.inst.now in
    let costs = c.args.costs.now in
    let i = c.loop-number.number in
    let cost = get_or costs i 0 in
    let few : cost ≤ GREATEST_COST = c.requires.small i 0 c.loop-number-test.true in
    let a = part (is_hard_at p i) cost in
    let b = other_part (is_hard_at p i) cost in
    record {
      hard = c.with_cost_of-totals.ensures.hard
          ∙ (λ j. c.loop-number.invariant.hard j + (if is_hard_at p i then cost else 0))
          ∙ sym (sum_by_range_more (λ n. if is_hard_at p n then slice_index costs n else 0) i);
      soft = c.with_cost_of-totals.ensures.soft
          ∙ (λ j. c.loop-number.invariant.soft j + (if is_hard_at p i then 0 else cost))
          ∙ sym (sum_by_range_more (λ n. if is_hard_at p n then 0 else slice_index costs n) i);
      small_hard = omega (arith, c.with_cost_of-totals.ensures.hard, a, few, c.loop-number.invariant.small_hard);
      small_soft = omega (arith, c.with_cost_of-totals.ensures.soft, b, few, c.loop-number.invariant.small_soft);
    }
