use Rattle.std.proofs.Common.{◌≡◌, map, get_or, sym, ap, ◌∙◌}
use Rattle.monitor_graph.specs.Boards.{Board, fixed_of}
use Rattle.monitor_graph.specs.declared.lines.Line.{Line}
use Rattle.monitor_graph.proofs.LineLaws.{deviations_set, rest_set}
use Rattle.monitor_graph.proofs.graph.Graph.deviate.Goals as goal

pub returns-clause-set : goal.returns-clause-set
returns-clause-set c = ap (map (λ (x : Line). x.deviation)) c.turn.ensures.lines
    ∙ deviations_set c.args.self.now.lines c.args.monitor.0 _

pub returns-clause-rest : goal.returns-clause-rest
returns-clause-rest c =
    let d = c.index.result.now in
    let m = c.args.monitor.0 in
    let same : d ≡ get_or c.args.self.now.lines m d =
    c.index.ensures ∙ ap (λ (b : Board). get_or b.lines m d) c.self.view_is in
    record {
      lines = rest_set c.args.self.now.lines m _ d (ap fixed_of same) ∙ ap (map fixed_of) (sym c.turn.ensures.lines);
      groups = sym c.turn.ensures.groups;
      marked = sym c.turn.ensures.marked;
      seats = sym c.turn.ensures.seats;
    }
