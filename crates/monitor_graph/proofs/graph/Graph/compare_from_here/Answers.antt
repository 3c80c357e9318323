use Rattle.std.proofs.Common.{length, sym, subst, ap, ◌∙◌, arith}
use Rattle.std.proofs.lemmas.List.{length-map}
use Rattle.monitor_graph.specs.Boards.{Board}
use Rattle.monitor_graph.specs.Left.{AreLeft}
use Rattle.monitor_graph.specs.Lines.{line_cost, line_costs}
use Rattle.monitor_graph.proofs.DearerLaws.{marked_now}
use Rattle.monitor_graph.proofs.ValueLaws.{costs_are}
use Rattle.monitor_graph.proofs.graph.Graph.compare_from_here.Goals as goal

pub mark_changed-requires-clause-left : goal.mark_changed-requires-clause-left
mark_changed-requires-clause-left c =
    let s = c.self.inside in
    subst (λ xs. AreLeft (line_costs xs) s.marked.items s.changed.items s.changed_words.items)
    (sym c.as_slice.ensures.value) c.self.invariant.5

pub mark_changed-requires-clause-long : goal.mark_changed-requires-clause-long
mark_changed-requires-clause-long c =
    let a = c.self.invariant.2.long in
    let b = length-map c.self.inside.lines.items line_cost in
    let d = ap length c.as_slice.ensures.value in
    omega (arith, a, b, d)

pub invariant_of-self : goal.invariant_of-self
invariant_of-self c =
    let i = c.self.invariant in
    let s = c.self.inside in
    let marked = c.mark_changed.ensures.marked ∙ ap line_costs c.as_slice.ensures.value in (
      i.0,
      i.1,
      marked_now (line_costs s.lines.items) c.mark_changed.new.marked.items i.2.few marked,
      i.3,
      i.4,
      subst (λ xs. AreLeft (line_costs xs) c.mark_changed.new.marked.items c.mark_changed.new.words.items
          c.mark_changed.new.summary.items) c.as_slice.ensures.value c.mark_changed.ensures.left,
    )

pub returns-clause-marked : goal.returns-clause-marked
returns-clause-marked c p e =
    c.mark_changed.ensures.marked ∙ ap line_costs c.as_slice.ensures.value
    ∙ ap (λ (b : Board). line_costs b.lines) c.self.view_is ∙ sym (costs_are c.args.self.now p e)
