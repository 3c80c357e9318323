use Rattle.std.proofs.Common.{◌≡◌, List, set, sym, ap, subst, ◌∙◌}
use Rattle.monitor_graph.specs.Boards.{Board}
use Rattle.monitor_graph.specs.Trials.{AreTotalsWith, IsStill}
use Rattle.monitor_graph.specs.declared.lines.Line.{Line}
use Rattle.monitor_graph.proofs.graph.Graph.shift.Goals as goal

pub shift-requires-clause-before : goal.shift-requires-clause-before
shift-requires-clause-before c =
    let b = c.requires.before in
    let e : c.args.self.now.lines ≡ c.as_slice.result.now =
    sym (c.as_slice.ensures.value ∙ ap (λ (x : Board). x.lines) c.self.view_is) in (
      b.0,
      subst (λ (xs : List Line). AreTotalsWith xs b.0 c.args.totals.now) e b.1,
      subst (λ (xs : List Line). IsStill xs b.0 c.args.monitor.0) e b.2,
    )

pub returns : goal.returns
returns c ds h s =
    let e : c.args.self.now.lines ≡ c.as_slice.result.now =
    sym (c.as_slice.ensures.value ∙ ap (λ (x : Board). x.lines) c.self.view_is) in
    subst (λ (xs : List Line). AreTotalsWith xs
    (set ds c.args.monitor.0 c.args.deviation) c.shift.new.totals) (sym e)
    (c.shift.ensures ds (subst (λ (xs : List Line). AreTotalsWith xs ds c.args.totals.now) e h)
    (subst (λ (xs : List Line). IsStill xs ds c.args.monitor.0) e s))
