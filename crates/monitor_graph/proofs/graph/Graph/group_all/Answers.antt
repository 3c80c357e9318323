use Rattle.std.proofs.Common.{Some, set, slice_get, ◌∙◌}
use Rattle.khe_base.specs.declared.limits.TheConstants.{GROUPS}
use Rattle.monitor_graph.proofs.OpenLaws.{next_free, next_made}
use Rattle.monitor_graph.proofs.graph.Graph.group_all.Goals as goal

pub open_group-requires-clause-free : goal.open_group-requires-clause-free
open_group-requires-clause-free c =
    let k = c.loop-group.group-index in
    let x = c.group-item.result in
    let l = c.loop-group-test.true in
    (λ i. slice_get (c.loop-group.invariant.groups i) (c.group-item.is i).group.0)
    ∙ next_free GROUPS c.args.groups.now k x c.requires.apart l (c.requires.each k x l).number

pub loop-group-preserved : goal.loop-group-preserved
loop-group-preserved c =
    let k = c.loop-group.group-index in
    let x = c.group-item.result in
    let l = c.loop-group-test.true in
    let i = c.loop-group.invariant in
    let made = c.in_ok-open_group.ensures in
    record {
      groups = made.groups ∙ (λ j. set (i.groups j) (c.group-item.is j).group.0 (Some (c.group-item.is j).children))
          ∙ next_made GROUPS c.args.groups.now k x c.requires.apart l (c.requires.each k x l).number;
      lines = made.lines ∙ i.lines;
      marked = made.marked ∙ i.marked;
    }
