use Rattle.std.proofs.Common.{ap, refl, ◌∙◌}
use Rattle.std.specs.List.{sum_by}
use Rattle.monitor_graph.specs.Boards.{Board}
use Rattle.monitor_graph.specs.Lines.{hard_cost, soft_cost}
use Rattle.monitor_graph.proofs.TrialLaws.{own_totals}
use Rattle.monitor_graph.proofs.ValueLaws.{totals_are}
use Rattle.monitor_graph.proofs.graph.Graph.totals.Goals as goal

pub returns-clause-value : goal.returns-clause-value
returns-clause-value c p e =
    let s = c.self.inside in
    totals_are c.args.self.now p e (record { hard = s.hard; soft = s.soft })
    (c.self.invariant.0.hard ∙ ap (λ (b : Board). sum_by hard_cost b.lines) c.self.view_is)
    (c.self.invariant.0.soft ∙ ap (λ (b : Board). sum_by soft_cost b.lines) c.self.view_is)

pub returns-clause-whole : goal.returns-clause-whole
returns-clause-whole c =
    let s = c.self.inside in
    rw (← c.self.view_is) (own_totals s.lines.items (record { hard = s.hard; soft = s.soft }) c.self.invariant.0)
