use Rattle.std.proofs.Common.{◌<◌, true, false, cond, length, map, get_or, List, sym, subst, ap, ◌∙◌, arith}
use Rattle.std.specs.Prelude.{◌==◌, All}
use Rattle.std.specs.List.{list_any}
use Rattle.std.proofs.lemmas.List.{length-map}
use Rattle.khe_base.specs.declared.numbers.MonitorId.{MonitorId}
use Rattle.monitor_graph.specs.Boards.{rate_of}
use Rattle.monitor_graph.specs.Opened.{IsFresh, line_of}
use Rattle.monitor_graph.specs.declared.lines.Line.{Line}
use Rattle.monitor_graph.proofs.OpenLaws.{lines_fresh, lines_rates, lines_deviations, attached_are}
use Rattle.monitor_graph.proofs.graph.Graph.open.Goals as goal

pub of_lines-requires-clause-fresh : goal.of_lines-requires-clause-fresh
of_lines-requires-clause-fresh c = subst (All IsFresh) (sym c.in_ok-lines_of.ensures)
    (lines_fresh c.args.inst.now c.facts.ensures)

pub detach_all-requires : goal.detach_all-requires
detach_all-requires c =
    let p = c.args.inst.now in
    let long = ap length (c.in_ok-graph.ensures.lines ∙ c.in_ok-lines_of.ensures)
    ∙ length-map p.monitors (line_of p true) in
    record {
      known = λ k d l.
          let low = c.requires.detached k d (subst (λ (x : List MonitorId). k < length x) c.as_slice.ensures l) in
          let same = ap (λ (x : List MonitorId). (get_or x k d).0) c.as_slice.ensures in
          omega (arith, low, same, long);
    }

pub returns-in-Ok-clause-of : goal.returns-in-Ok-clause-of
returns-in-Ok-clause-of c =
    ap (map rate_of) c.in-Ok.ensures.lines ∙ c.detach_all.ensures.rest.rates
    ∙ ap (map rate_of) (c.in_ok-graph.ensures.lines ∙ c.in_ok-lines_of.ensures) ∙ lines_rates c.args.inst.now

pub returns-in-Ok-clause-deviations : goal.returns-in-Ok-clause-deviations
returns-in-Ok-clause-deviations c =
    ap (map (λ (x : Line). x.deviation)) c.in-Ok.ensures.lines ∙ c.detach_all.ensures.rest.deviations
    ∙ ap (map (λ (x : Line). x.deviation)) (c.in_ok-graph.ensures.lines ∙ c.in_ok-lines_of.ensures)
    ∙ lines_deviations c.args.inst.now

pub returns-in-Ok-clause-attached : goal.returns-in-Ok-clause-attached
returns-in-Ok-clause-attached c =
    let p = c.args.inst.now in
    let s = c.args.plain.now in
    let bare = c.in_ok-graph.ensures.lines ∙ c.in_ok-lines_of.ensures in
    ap (map (λ (x : Line). x.attached)) c.in-Ok.ensures.lines
    ∙ attached_are p s c.detach_all.new.self.lines (c.detach_all.ensures.long ∙ ap length bare)
    (λ n. c.detach_all.ensures.attached n ∙ (λ i. cond (list_any (λ (d : MonitorId). d.0 == n) (c.as_slice.ensures i))
    false (get_or (map (λ (x : Line). x.attached) (bare i)) n false)))
