use Rattle.std.proofs.Common.{subst, sym}
use Rattle.resource_match.specs.Smallness.{IsSmall}
use Rattle.time_match.proofs.TotalsLaws.{totals_small_after}
use Rattle.time_match.proofs.asking.totals_after.Goals as goal

pub returns-clause-small : goal.returns-clause-small
returns-clause-small g c =
    let w = c.args.engine.now in
    subst IsSmall (sym c.totals_after.ensures.totals)
    (totals_small_after w.parts w.state c.args.edit c.facts.ensures.made c.facts.ensures.valid c.requires.ours
    c.requires.accepted)
