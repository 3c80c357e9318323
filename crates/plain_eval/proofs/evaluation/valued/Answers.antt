-- There is a cost for each monitor.
use Rattle.std.proofs.Common.{◌≡◌, ◌∙◌, ap, length}
use Rattle.std.proofs.lemmas.List.FromFn.{length-map-range_with_len}
use Rattle.khe_instance.specs.Costs.{cost_at}
use Rattle.khe_instance.specs.Evaluated as evaluated
use Rattle.plain_eval.proofs.evaluation.valued.Goals as goal

pub totals_of-totals-requires-clause-all : goal.totals_of-totals-requires-clause-all
totals_of-totals-requires-clause-all c =
    let p = c.args.inst.now in
    let s = c.args.plain.now in
    ap length (c.as_slice-paid.ensures ∙ c.in_ok-costs.ensures.costs)
    ∙ length-map-range_with_len (cost_at p (evaluated.is_detached s) (evaluated.deviations p s)) 0 (length p.monitors)
