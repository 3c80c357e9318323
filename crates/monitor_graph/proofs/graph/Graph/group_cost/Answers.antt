use Rattle.std.proofs.Common.{Some, ap, subst, ◌≡◌, ◌∙◌, true, sym, arith}
use Rattle.std.specs.List.{sum_by}
use Rattle.std.proofs.lemmas.Option.{slice_get_within}
use Rattle.monitor_graph.specs.Boards.{Board}
use Rattle.monitor_graph.specs.Groups.{children_at, has_group}
use Rattle.monitor_graph.specs.GroupCosts.{child_cost}
use Rattle.monitor_graph.specs.Lines.{hard_cost, soft_cost}
use Rattle.monitor_graph.proofs.SeatLaws.{group_is as group_there}
use Rattle.monitor_graph.proofs.ValueLaws.{group_is}
use Rattle.monitor_graph.proofs.graph.Graph.group_cost.Goals as goal

pub of-requires : goal.of-requires
of-requires c =
    let s = c.self.inside in
    let g = c.args.group.0 in
    let there = subst (λ (b : Board). has_group b.groups g ≡ true) (sym c.self.view_is) c.requires in
    let low = slice_get_within s.groups.groups g (Some (children_at s.groups.groups g)) (group_there s.groups.groups g there) in
    let n = c.facts.ensures.valid.numbers in
    let h = c.self.invariant.4.hard_long in
    let k = c.self.invariant.4.soft_long in
    record { there = (omega (arith, low, n, h), omega (arith, low, n, k)) }

pub returns : goal.returns
returns c p e =
    let g = c.args.group.0 in
    group_is c.args.self.now p (children_at c.args.self.now.groups g) e c.of.result
    (c.of.ensures.hard ∙ c.self.invariant.4.hard g
    ∙ ap (λ (b : Board). sum_by (child_cost hard_cost b.lines) (children_at b.groups g)) c.self.view_is)
    (c.of.ensures.soft ∙ c.self.invariant.4.soft g
    ∙ ap (λ (b : Board). sum_by (child_cost soft_cost b.lines) (children_at b.groups g)) c.self.view_is)
