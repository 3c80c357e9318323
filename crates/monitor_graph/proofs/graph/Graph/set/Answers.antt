use Rattle.std.proofs.Common.{get_or, ap, ◌∙◌, ◌≡◌, sym}
use Rattle.monitor_graph.specs.Boards.{Board}
use Rattle.monitor_graph.specs.declared.lines.Line.{Line}
use Rattle.monitor_graph.proofs.LineLaws.{deviations_same}
use Rattle.monitor_graph.proofs.graph.Graph.set.Goals as goal

pub returns-then-index-deviation-clause-set : goal.returns-then-index-deviation-clause-set
returns-then-index-deviation-clause-set g c =
    let d = c.index.result.now in
    let m = c.args.monitor.0 in
    let same : d ≡ get_or c.args.self.now.lines m d =
    c.index.ensures ∙ ap (λ (b : Board). get_or b.lines m d) c.self.view_is in
    let e : c.args.deviation ≡ d.deviation = sym c.if-index-deviation.true in
    deviations_same c.args.self.now.lines m d c.args.deviation (e ∙ ap (λ (x : Line). x.deviation) same)
