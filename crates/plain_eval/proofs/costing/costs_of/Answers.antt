-- At each turn one monitor joins the costs.
use Rattle.std.proofs.Common.{ℕ, ◌≡◌, ◌≤◌, ◌+◌, ◌++◌, ◌∷◌, [], ◌∙◌, sym, ap, get_or, zero-add}
use Rattle.std.specs.Option.{option_map_or}
use Rattle.std.proofs.lemmas.List.Elements.{All-push, All-same}
use Rattle.std.proofs.lemmas.List.FromFn.{map-range_with_len_more}
use Rattle.khe_base.proofs.ListLemmas.{all-there}
use Rattle.khe_base.specs.declared.limits.TheConstants.{GREATEST_COST}
use Rattle.khe_instance.specs.Costs.{cost_at, monitor_cost}
use Rattle.khe_instance.specs.Evaluated.{is_detached}
use Rattle.khe_instance.specs.WellMade.{IsMonitor}
use Rattle.khe_instance.specs.declared.points.Monitor.{Monitor}
use Rattle.plain_eval.proofs.costing.costs_of.Goals as goal

pub cost_at-cost-requires-clause-monitor : goal.cost_at-cost-requires-clause-monitor
cost_at-cost-requires-clause-monitor c =
    all-there (IsMonitor c.args.inst.now) c.args.inst.now.monitors c.loop-number.number c.monitor-monitor.result
    c.facts.ensures.monitors.each c.monitor-monitor.ensures

pub loop-number-preserved : goal.loop-number-preserved
loop-number-preserved c =
    let p = c.args.inst.now in
    let ds = c.args.deviations.now in
    let i = c.loop-number.number in
    let m = c.monitor-monitor.result in
    let detached = is_detached c.args.plain.now in
    let cost = c.cost_at-cost.result in
    let is : cost ≡ cost_at p detached ds i =
    c.cost_at-cost.ensures.exact
    ∙ ap (λ b. monitor_cost p b m (get_or ds i 0)) (c.has.ensures.below ∙ c.in_ok-detached.ensures i)
    ∙ sym (ap (λ o. option_map_or (λ (x : Monitor). monitor_cost p (detached i) x (get_or ds i 0)) o 0)
    c.monitor-monitor.ensures) in
    record {
      costs = c.in_ok-push.ensures.ok ∙ (λ j. c.loop-number.invariant.costs j ++ is j ∷ [])
          ∙ sym (map-range_with_len_more (cost_at p detached ds) 0 i i (zero-add i));
      small = All-same (λ x. x ≤ GREATEST_COST) c.push.new.self (c.loop-number.costs ++ cost ∷ [])
          c.in_ok-push.ensures.ok
          (All-push (λ x. x ≤ GREATEST_COST) c.loop-number.costs cost c.loop-number.invariant.small
          c.cost_at-cost.ensures.small);
    }
