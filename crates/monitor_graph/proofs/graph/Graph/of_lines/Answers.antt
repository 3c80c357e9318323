use Rattle.std.proofs.Common.{◌≡◌, ◌+◌, ◌/◌, length, replicate, ap, ◌∙◌, arith}
use Rattle.monitor_graph.proofs.GroupCostLaws.{fresh_costs}
use Rattle.monitor_graph.proofs.LeftLaws.{left_none}
use Rattle.monitor_graph.proofs.OpenLaws.{fresh_totalled, fresh_defects, fresh_compared, fresh_marked}
use Rattle.monitor_graph.specs.Lines.{line_cost, line_costs}
use Rattle.std.proofs.lemmas.List.{length-map}
use Rattle.monitor_graph.proofs.graph.Graph.of_lines.Goals as goal

pub invariant_of-result : goal.invariant_of-result
invariant_of-result c =
    let lines = c.args.lines.items in
    let many : c.len-monitors.result ≡ length lines = omega arith in (
      fresh_totalled lines c.requires.few c.requires.fresh,
      fresh_defects lines c.in_ok-no_bits-2.field-0.items c.in_ok-no_bits.field-0.items c.requires.few c.requires.fresh
          (c.in_ok-no_bits-2.ensures ∙ ap (λ n. replicate (n / 64 + 1) 0) many)
          (c.in_ok-no_bits.ensures ∙ ap (λ n. replicate ((n / 64 + 1) / 64 + 1) 0) many),
      fresh_compared lines c.in_ok-vec.field-0.items c.requires.few c.requires.fresh
          (c.in_ok-vec.ensures.items_if_clones_equal (λ y h. h) ∙ ap (λ n. replicate n 0) many),
      c.in_ok-open.ensures.monitors ∙ many,
      fresh_costs lines _ c.in_ok-open-2.field-0.hard.items c.in_ok-open-2.field-0.soft.items
          c.in_ok-open.ensures.groups c.in_ok-open-2.ensures.hard_long c.in_ok-open-2.ensures.soft_long
          c.in_ok-open-2.ensures.hard c.in_ok-open-2.ensures.soft,
      left_none (line_costs lines) c.in_ok-vec.field-0.items c.in_ok-no_bits-4.field-0.items
          c.in_ok-no_bits-3.field-0.items (length lines) (length-map lines line_cost) c.requires.few
          (fresh_marked lines c.in_ok-vec.field-0.items c.requires.fresh
          (c.in_ok-vec.ensures.items_if_clones_equal (λ y h. h) ∙ ap (λ n. replicate n 0) many))
          (c.in_ok-no_bits-4.ensures ∙ ap (λ n. replicate (n / 64 + 1) 0) many)
          (c.in_ok-no_bits-3.ensures ∙ ap (λ n. replicate ((n / 64 + 1) / 64 + 1) 0) many),
    )
