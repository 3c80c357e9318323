use Rattle.std.proofs.Common.{◌≡◌, get_or, sym, ap, ◌∙◌}
use Rattle.monitor_graph.specs.Boards.{Board}
use Rattle.monitor_graph.specs.Lines.{line_cost}
use Rattle.monitor_graph.proofs.ValueLaws.{at_line, cost_in}
use Rattle.monitor_graph.proofs.graph.Graph.cost.Goals as goal

pub returns : goal.returns
returns c p e =
    let m = c.args.monitor.0 in
    let d = c.index.result.now in
    let same : d ≡ get_or c.args.self.now.lines m d =
    c.index.ensures ∙ ap (λ (b : Board). get_or b.lines m d) c.self.view_is in
    c.cost_of.ensures.value ∙ ap line_cost same ∙ sym (at_line line_cost c.args.self.now.lines m d c.requires)
    ∙ sym (cost_in c.args.self.now p m e)
