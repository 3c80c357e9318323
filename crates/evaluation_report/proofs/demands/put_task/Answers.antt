-- Piece by piece, from the end on.
use Rattle.std.proofs.Common.{◌++◌, ◌∙◌, ap, codes}
use Rattle.std.specs.Fmt.{decimal}
use Rattle.evaluation_report.proofs.DemandLemmas.{pieces}
use Rattle.evaluation_report.proofs.demands.put_task.Goals as goal

pub returns-clause-written : goal.returns-clause-written
returns-clause-written c =
    let a = c.args in
    c.put_demand.ensures.written
    ∙ ap (λ r. codes "demand" ++ r) (c.put_number-at-3.ensures.written
    ∙ ap (λ r. codes " " ++ (decimal a.meet ++ r)) (c.put_number-at-2.ensures.written
    ∙ ap (λ r. codes " " ++ (decimal a.place ++ r)) (c.put_number-at.ensures.written
    ∙ ap (λ r. codes " " ++ (decimal a.offset ++ r)) c.requires.feed)))
    ∙ pieces (codes "demand ") (decimal a.meet) (codes " ") (decimal a.place) (decimal a.offset) (codes "\n")
