use Rattle.std.proofs.Common.{◌≡◌, ◌++◌, ◌∙◌, ap, subst, codes, List, ℕ, OnOk}
use Rattle.std.proofs.lemmas.List.{append_assoc}
use Rattle.std.specs.Fmt.{decimal}
use Rattle.evaluation_report.specs.Demands.{demand_line}
use Rattle.evaluation_report.proofs.demands.push_unavailable.Goals as goal

pub returns : goal.returns
unfolding demand_line
returns c =
    let rest : List ℕ = decimal c.args.resource.0 ++ codes " " ++ decimal c.args.time.0 ++ codes "\n" in
    subst (λ (xs : List ℕ). OnOk c.push_numbers.result (c.push_numbers.new.line ≡ xs))
    (ap (λ xs. xs ++ rest) c.in_ok-push_literal.ensures.ok
    ∙ append_assoc c.args.line.now (codes "unavailable ") rest) c.push_numbers.ensures
