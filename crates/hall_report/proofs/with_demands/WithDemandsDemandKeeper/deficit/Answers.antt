-- What the demands were told is what the families were told.
use Rattle.std.proofs.Common.{ap, ◌∙◌}
use Rattle.hall_report.specs.Shortages.{deficit_of}
use Rattle.hall_report.proofs.ShortageLaws.{deficit_told}
use Rattle.hall_report.proofs.with_demands.WithDemandsDemandKeeper.deficit.Goals as goal

pub returns : goal.returns
returns g c = λ p is.
    deficit_told p c.args.self.now.demands.told c.deficit.result (c.deficit.ensures p is.2) ∙ ap (deficit_of p) is.1
