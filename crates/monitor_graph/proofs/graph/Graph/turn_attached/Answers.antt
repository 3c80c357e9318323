use Rattle.std.proofs.Common.{◌≡◌, map, get_or, ap, ◌∙◌}
use Rattle.monitor_graph.specs.Boards.{Board, rate_of}
use Rattle.monitor_graph.specs.declared.lines.Line.{Line}
use Rattle.monitor_graph.proofs.LineLaws.{attached_set, rates_kept, deviations_kept}
use Rattle.monitor_graph.proofs.graph.Graph.turn_attached.Goals as goal

pub returns-clause-grouping : goal.returns-clause-grouping
returns-clause-grouping c = λ i. record {
  attached = (ap (map (λ (x : Line). x.attached)) c.turn.ensures.lines
      ∙ attached_set c.args.self.now.lines c.args.monitor.0 _) i;
  groups = c.turn.ensures.groups i;
}

pub returns-clause-rest : goal.returns-clause-rest
returns-clause-rest c =
    let d = c.index.result.now in
    let m = c.args.monitor.0 in
    let same : d ≡ get_or c.args.self.now.lines m d =
    c.index.ensures ∙ ap (λ (b : Board). get_or b.lines m d) c.self.view_is in
    record {
      deviations = ap (map (λ (x : Line). x.deviation)) c.turn.ensures.lines
          ∙ deviations_kept c.args.self.now.lines m _ d (ap (λ (x : Line). x.deviation) same);
      rates = ap (map rate_of) c.turn.ensures.lines ∙ rates_kept c.args.self.now.lines m _ d (ap rate_of same);
      marked = c.turn.ensures.marked;
      seats = c.turn.ensures.seats;
    }
