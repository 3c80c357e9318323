use Rattle.std.proofs.Common.{◌≡◌, List, length}
use Rattle.std.specs.Prelude.{All, replicate}
use Rattle.std.specs.List.{flat_map}
use Rattle.khe_base.proofs.ResultLemmas.{if_ok}
use Rattle.khe_base.specs.declared.sums.Totals.{Totals}
use Rattle.resource_match.specs.Smallness.{IsSmall}
use Rattle.time_match.specs.Costs.{row}
use Rattle.time_match.proofs.AskLaws.{are_costs, same_costs}
use Rattle.time_match.proofs.asking.table.Goals as goal

pub returns-clause-costs : goal.returns-clause-costs
returns-clause-costs g c =
    let w = c.args.engine.now in
    let ts = c.args.tasks.now in
    let rs = c.args.resources.now in
    let none = if_ok _ _ (λ (xs : List Totals). xs ≡ replicate (length ts) c.totals.result) c.in_ok-none.ensures.0
    c.none_of-none.ensures in
    let pairs = if_ok _ _ (λ (xs : List Totals). xs ≡ flat_map (row w.parts w.state rs) ts) c.in_ok-none.ensures.1
    c.pairs_of-pairs.ensures.pairs in
    same_costs w.parts w.state ts rs c.in_ok-none.none c.in_ok-none.pairs c.totals.result none c.totals.ensures.is pairs

pub returns-clause-small : goal.returns-clause-small
returns-clause-small g c =
    let w = c.args.engine.now in
    let ts = c.args.tasks.now in
    let rs = c.args.resources.now in
    let none = if_ok _ _ (λ (xs : List Totals). xs ≡ replicate (length ts) c.totals.result) c.in_ok-none.ensures.0
    c.none_of-none.ensures in
    let pairs = if_ok _ _ (λ (xs : List Totals). xs ≡ flat_map (row w.parts w.state rs) ts) c.in_ok-none.ensures.1
    c.pairs_of-pairs.ensures.pairs in
    let small = if_ok _ _ (λ (xs : List Totals). All IsSmall xs) c.in_ok-none.ensures.1
    c.pairs_of-pairs.ensures.small in
    are_costs w.parts w.state ts rs c.in_ok-none.none c.in_ok-none.pairs c.totals.result none c.totals.ensures.small
    pairs
    small c.requires.few_tasks c.requires.few_resources
