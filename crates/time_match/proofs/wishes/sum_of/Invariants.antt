use Rattle.std.proofs.Common.{◌≡◌, ◌≤◌, ◌*◌, cond, take}
use Rattle.std.specs.List.{sum_by}
use Rattle.khe_base.specs.declared.limits.TheConstants.{GREATEST_COST}
use Rattle.time_match.specs.Wishes.{wish_cost}
use Rattle.time_match.specs.declared.wishes.Wish.{Wish}
use Rattle.time_match.proofs.wishes.sum_of.Given as goal

abbrev pub invariant-loop-wish : goal.invariant-loop-wish
invariant-loop-wish l = record {
  hard : l.hard ≡ sum_by (λ (w : Wish). cond w.required (wish_cost l.inst l.resource w) 0)
      (take l.wish-index l.wishes);
  soft : l.soft ≡ sum_by (λ (w : Wish). cond w.required 0 (wish_cost l.inst l.resource w))
      (take l.wish-index l.wishes);
  hard_small : l.hard ≤ l.wish-index * GREATEST_COST;
  soft_small : l.soft ≤ l.wish-index * GREATEST_COST;
}
