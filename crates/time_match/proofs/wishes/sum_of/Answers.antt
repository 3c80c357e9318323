use Rattle.std.proofs.Common.{◌+◌, cond, get_or, sym, ap, ◌∙◌, arith}
use Rattle.std.specs.List.{sum_by}
use Rattle.std.proofs.lemmas.List.{take_all}
use Rattle.std.proofs.lemmas.List.Sums.{sum_by_more}
use Rattle.time_match.specs.Wishes.{no_wish, wish_cost}
use Rattle.time_match.specs.declared.wishes.Wish.{Wish}
use Rattle.time_match.proofs.wishes.sum_of.Goals as goal

pub loop-wish-preserved : goal.loop-wish-preserved
loop-wish-preserved c =
    let p = c.args.inst.now in
    let r = c.args.resource in
    let ws = c.args.wishes.now in
    let k = c.loop-wish.wish-index in
    let w = get_or ws k no_wish in
    let l = c.loop-wish-test.true in
    let i = c.loop-wish.invariant in
    let hard = c.hard_of-hard.ensures in
    let soft = c.soft_of-soft.ensures in
    let cost = c.wish_cost-cost.ensures in
    record {
      hard = (λ j. i.hard j + (hard.is ∙ ap (λ n. cond w.required n 0) cost.is) j)
          ∙ sym (sum_by_more (λ (x : Wish). cond x.required (wish_cost p r x) 0) ws k no_wish l);
      soft = (λ j. i.soft j + (soft.is ∙ ap (λ n. cond w.required 0 n) cost.is) j)
          ∙ sym (sum_by_more (λ (x : Wish). cond x.required 0 (wish_cost p r x)) ws k no_wish l);
      hard_small = omega (arith, i, hard, cost);
      soft_small = omega (arith, i, soft, cost);
    }

pub returns-clause-is : goal.returns-clause-is
returns-clause-is c =
    let p = c.args.inst.now in
    let r = c.args.resource in
    let ws = c.args.wishes.now in
    let g = c.loop-wish-test.false in
    let i = c.loop-wish.invariant in
    let all = take_all c.loop-wish.wish-index ws (omega (arith, g)) in
    λ j. record {
      hard = (i.hard ∙ ap (sum_by (λ (x : Wish). cond x.required (wish_cost p r x) 0)) all) j;
      soft = (i.soft ∙ ap (sum_by (λ (x : Wish). cond x.required 0 (wish_cost p r x))) all) j;
    }
