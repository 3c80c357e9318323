use Rattle.std.proofs.Common.{length, get_or, ap, ◌∙◌}
use Rattle.std.proofs.lemmas.List.{length-replicate}
use Rattle.monitor_graph.proofs.GroupCostLaws.{zeros_at}
use Rattle.monitor_graph.proofs.group_costs.no_costs.Goals as goal

pub returns-clause-long : goal.returns-clause-long
returns-clause-long c = ap length (c.in_ok-vec.ensures.items_if_clones_equal (λ y h. h)) ∙ length-replicate c.args.n 0

pub returns-clause-none : goal.returns-clause-none
returns-clause-none c g =
    ap (λ xs. get_or xs g 0) (c.in_ok-vec.ensures.items_if_clones_equal (λ y h. h)) ∙ zeros_at c.args.n g
