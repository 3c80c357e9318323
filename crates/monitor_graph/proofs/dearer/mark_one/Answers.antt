use Rattle.std.proofs.Common.{◌≡◌, ◌<◌, false, ◌∙◌, length, get_or, sym, arith}
use Rattle.std.proofs.lemmas.List.{length-map}
use Rattle.khe_base.proofs.ListLemmas.{get-map}
use Rattle.monitor_graph.specs.Lines.{line_cost, line_costs}
use Rattle.monitor_graph.specs.Opened.{no_line}
use Rattle.monitor_graph.proofs.LeftLaws.{left_marked}
use Rattle.monitor_graph.proofs.ValueLaws.{at_line}
use Rattle.monitor_graph.proofs.dearer.mark_one.Goals as goal

pub returns-clause-left : goal.returns-clause-left
returns-clause-left c =
    let lines = c.args.lines.now in
    let costs = line_costs lines in
    let k = c.args.place in
    let many = length-map lines line_cost in
    let low = c.requires.there in
    let long = c.requires.long in
    let there : k < length costs = omega (arith, many, low) in
    let all : length c.args.marked.now.items ≡ length costs = omega (arith, many, long) in
    let same : c.cost_of-cost.result ≡ get_or costs k 0 =
    c.cost_of-cost.ensures.value ∙ sym (at_line line_cost lines k (no_line false) low)
    ∙ sym (get-map line_cost lines k) in
    left_marked costs c.args.marked.now.items c.args.words.now.items c.args.summary.now.items c.put.new.words.items
    c.put.new.summary.items k c.cost_of-cost.result c.requires.left there all same c.put.ensures.length
    c.put.ensures.summary c.put.ensures.bits c.put.ensures.summed
