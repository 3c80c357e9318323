use Rattle.std.proofs.Common.{subst, sym}
use Rattle.resource_match.specs.Smallness.{IsSmall}
use Rattle.time_match.proofs.TotalsLaws.{totals_small}
use Rattle.time_match.proofs.asking.totals.Goals as goal

pub returns-clause-small : goal.returns-clause-small
returns-clause-small g c =
    let w = c.args.engine.now in
    subst IsSmall (sym c.totals.ensures) (totals_small w.parts w.state c.facts.ensures.made c.facts.ensures.valid.told)
