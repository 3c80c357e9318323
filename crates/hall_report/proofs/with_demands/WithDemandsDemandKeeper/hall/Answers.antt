-- What the demands were told is what the families were told.
use Rattle.std.proofs.Common.{subst}
use Rattle.hall_report.specs.Shortages.{AreCompeting}
use Rattle.hall_report.proofs.with_demands.WithDemandsDemandKeeper.hall.Goals as goal

pub returns : goal.returns
returns g c = λ p is.
    subst (λ s. AreCompeting p s c.in_ok-shortage.shortage.demands) is.1 (c.in_ok-shortage.ensures p is.2).hall
