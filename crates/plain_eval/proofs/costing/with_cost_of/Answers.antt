-- A cost of 0 changes no total, and another is looked up.
use Rattle.std.proofs.Common.{◌≡◌, ◌+◌, ◌∙◌, ℕ, Bool, true, false, sym, ap, arith, if◌then◌else◌}
use Rattle.std.specs.Option.{option_map_or}
use Rattle.khe_base.proofs.ListLemmas.{all-there}
use Rattle.khe_instance.specs.Costs.{is_hard, is_hard_at}
use Rattle.khe_instance.specs.WellMade.{IsMonitor}
use Rattle.plain_eval.proofs.costing.with_cost_of.Goals as goal

same : (b : Bool) (n m : ℕ) → m ≡ 0 → n ≡ n + (if b then m else 0)
same true n m h = omega (arith, h)
same false n m h = omega arith

also_same : (b : Bool) (n m : ℕ) → m ≡ 0 → n ≡ n + (if b then 0 else m)
also_same true n m h = omega arith
also_same false n m h = omega (arith, h)

pub returns-then-cost-eq0-clause-hard : goal.returns-then-cost-eq0-clause-hard
returns-then-cost-eq0-clause-hard c = same (is_hard_at c.args.inst.now c.args.monitor.0) c.args.totals.hard c.args.cost
    c.if-cost-eq0.true

pub returns-then-cost-eq0-clause-soft : goal.returns-then-cost-eq0-clause-soft
returns-then-cost-eq0-clause-soft c = also_same (is_hard_at c.args.inst.now c.args.monitor.0) c.args.totals.soft
    c.args.cost c.if-cost-eq0.true

pub is_hard-requires : goal.is_hard-requires
is_hard-requires c =
    all-there (IsMonitor c.args.inst.now) c.args.inst.now.monitors c.args.monitor.0 c.monitor-monitor.result
    c.facts.ensures.monitors.each c.monitor-monitor.ensures

pub returns-clause-hard : goal.returns-clause-hard
returns-clause-hard c =
    let p = c.args.inst.now in
    let hard = c.is_hard.ensures ∙ sym (ap (λ o. option_map_or (is_hard p) o false) c.monitor-monitor.ensures) in
    c.with_cost.ensures.hard ∙ ap (λ b. c.args.totals.hard + (if b then c.args.cost else 0)) hard

pub returns-clause-soft : goal.returns-clause-soft
returns-clause-soft c =
    let p = c.args.inst.now in
    let hard = c.is_hard.ensures ∙ sym (ap (λ o. option_map_or (is_hard p) o false) c.monitor-monitor.ensures) in
    c.with_cost.ensures.soft ∙ ap (λ b. c.args.totals.soft + (if b then 0 else c.args.cost)) hard
