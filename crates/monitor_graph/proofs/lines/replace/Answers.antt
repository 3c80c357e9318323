use Rattle.std.proofs.Common.{◌≡◌, get_or, ap, arith}
use Rattle.std.proofs.lemmas.List.Sums.{get_or-le-sum_by}
use Rattle.monitor_graph.specs.Lines.{hard_cost, soft_cost}
use Rattle.monitor_graph.proofs.LineLaws.{hard_small, soft_small, totals_small}
use Rattle.monitor_graph.proofs.lines.replace.Goals as goal

pub take_cost-requires-clause-hard : goal.take_cost-requires-clause-hard
take_cost-requires-clause-hard c =
    let d = c.index.result.now in
    let most = get_or-le-sum_by hard_cost c.args.lines.now.items c.args.place d c.requires.known in
    let same : hard_cost d ≡ hard_cost (get_or c.args.lines.now.items c.args.place d) = ap hard_cost c.index.ensures in
    let total = c.requires.totalled.hard in
    omega (arith, most, same, total)

pub take_cost-requires-clause-soft : goal.take_cost-requires-clause-soft
take_cost-requires-clause-soft c =
    let d = c.index.result.now in
    let most = get_or-le-sum_by soft_cost c.args.lines.now.items c.args.place d c.requires.known in
    let same : soft_cost d ≡ soft_cost (get_or c.args.lines.now.items c.args.place d) = ap soft_cost c.index.ensures in
    let total = c.requires.totalled.soft in
    omega (arith, most, same, total)

pub add_cost-requires-clause-hard : goal.add_cost-requires-clause-hard
add_cost-requires-clause-hard c =
    let h = totals_small _ _ _ c.requires.totalled in
    let a = hard_small c.args.line c.requires.line in
    let e = c.take_cost.ensures.hard in
    omega (arith, h.0, a, e)

pub add_cost-requires-clause-soft : goal.add_cost-requires-clause-soft
add_cost-requires-clause-soft c =
    let h = totals_small _ _ _ c.requires.totalled in
    let a = soft_small c.args.line c.requires.line in
    let e = c.take_cost.ensures.soft in
    omega (arith, h.1, a, e)
