use Rattle.std.proofs.Common.{Some, slice_get, subst, sym, ap, ◌≡◌, ◌≤◌, ◌∙◌}
use Rattle.khe_base.specs.declared.limits.TheConstants.{GREATEST_COST}
use Rattle.khe_instance.specs.Costs.{is_hard}
use Rattle.khe_instance.specs.declared.parts.Parts.{Parts}
use Rattle.time_match.proofs.TotalsLaws.{each_small}
use Rattle.time_match.proofs.WishLaws.{wish_read}
use Rattle.time_match.proofs.wishes.wish_of.Goals as goal

pub returns-clause-is : goal.returns-clause-is
returns-clause-is g c =
    let m = c.monitor-monitor.result in
    wish_read c.args.engine.now.parts c.args.engine.now.state c.args.more c.args.number.0 m c.is_hard.result
    c.cost.result c.cost_more.result
    (subst (λ (q : Parts). slice_get q.monitors c.args.number.0 ≡ Some m) c.instance-inst.ensures
    c.monitor-monitor.ensures) (c.is_hard.ensures ∙ ap (λ (q : Parts). is_hard q m) c.instance-inst.ensures)
    c.cost.ensures c.cost_more.ensures.is

pub returns-clause-small : goal.returns-clause-small
returns-clause-small g c = record {
  inside = subst (λ k. k ≤ GREATEST_COST) (sym c.cost.ensures)
      (each_small c.args.engine.now.parts c.args.engine.now.state c.facts.ensures.made c.facts.ensures.valid.told
      c.args.number.0);
  outside = c.cost_more.ensures.small;
}
