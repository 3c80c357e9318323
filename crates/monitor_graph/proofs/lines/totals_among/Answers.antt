use Rattle.std.proofs.Common.{◌+◌, slice_get, get_or, sym, ◌∙◌, arith}
use Rattle.std.specs.Option.{option_map_or}
use Rattle.std.proofs.lemmas.List.Sums.{sum_by_more}
use Rattle.khe_base.specs.declared.numbers.MonitorId.{MonitorId}
use Rattle.monitor_graph.specs.Lines.{hard_cost, soft_cost}
use Rattle.monitor_graph.proofs.ValueLaws.{at_line}
use Rattle.monitor_graph.proofs.lines.totals_among.Goals as goal

pub loop-place-preserved : goal.loop-place-preserved
loop-place-preserved c =
    let lines = c.args.lines.now in
    let k = c.loop-place.place in
    let first : MonitorId = record { 0 = 0 } in
    let l = c.loop-place-test.true in
    let known = c.requires.known k first l in
    let i = c.loop-place.invariant in
    let hard = c.hard_of-hard.ensures in
    let soft = c.soft_of-soft.ensures in
    record {
      hard = (λ j. i.hard j + (hard.value ∙ sym (at_line hard_cost lines (get_or c.args.children.now k first).0 _
          known)) j)
          ∙ sym (sum_by_more (λ (x : MonitorId). option_map_or hard_cost (slice_get lines x.0) 0) c.args.children.now k
          first l);
      soft = (λ j. i.soft j + (soft.value ∙ sym (at_line soft_cost lines (get_or c.args.children.now k first).0 _
          known)) j)
          ∙ sym (sum_by_more (λ (x : MonitorId). option_map_or soft_cost (slice_get lines x.0) 0) c.args.children.now k
          first l);
      hard_small = omega (arith, i, hard);
      soft_small = omega (arith, i, soft);
    }
