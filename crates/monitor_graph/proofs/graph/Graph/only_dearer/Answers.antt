use Rattle.std.proofs.Common.{ℕ, Some, sym, ap, ◌∙◌, arith}
use Rattle.std.specs.Option.{option_map}
use Rattle.monitor_graph.specs.Boards.{Board}
use Rattle.monitor_graph.specs.Dearer.{dearer, only}
use Rattle.monitor_graph.specs.Lines.{line_costs}
use Rattle.monitor_graph.proofs.DearerLaws.{only-one, not-only, only_small}
use Rattle.monitor_graph.proofs.ValueLaws.{costs_are}
use Rattle.monitor_graph.proofs.graph.Graph.only_dearer.Goals as goal

pub overflow_cast-result : goal.overflow_cast-result
overflow_cast-result c =
    let s = c.self.inside in
    let l = only_small (line_costs s.lines.items) s.marked.items s.dearer s.numbers c.self.invariant.2
    c.if-self-eq1.true in
    omega (arith, l)

pub returns-then-self-eq1 : goal.returns-then-self-eq1
returns-then-self-eq1 c p e =
    let s = c.self.inside in
    let i = c.self.invariant.2 in
    ap (option_map (λ (m : ℕ). record { 0 = m }))
    (ap Some i.summed ∙ sym (only-one (dearer s.marked.items (line_costs s.lines.items))
    (sym i.counted ∙ c.if-self-eq1.true))
    ∙ ap (λ (b : Board). only (dearer b.marked (line_costs b.lines))) c.self.view_is
    ∙ ap (λ cs. only (dearer c.args.self.now.marked cs)) (sym (costs_are c.args.self.now p e)))

pub returns-else-self-eq1 : goal.returns-else-self-eq1
returns-else-self-eq1 c p e =
    let s = c.self.inside in
    let i = c.self.invariant.2 in
    ap (option_map (λ (m : ℕ). record { 0 = m }))
    (sym (not-only (dearer s.marked.items (line_costs s.lines.items)) (λ h. c.if-self-eq1.false (i.counted ∙ h)))
    ∙ ap (λ (b : Board). only (dearer b.marked (line_costs b.lines))) c.self.view_is
    ∙ ap (λ cs. only (dearer c.args.self.now.marked cs)) (sym (costs_are c.args.self.now p e)))
