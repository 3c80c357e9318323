use Rattle.engine_tests.proofs.MatchingLemmas.{single_in_range, same_sizes_with, of_some}
use Rattle.engine_tests.proofs.matchings.put.Goals as goal

pub set_domain-requires-clause-domain : goal.set_domain-requires-clause-domain
set_domain-requires-clause-domain c = of_some _ _
    (single_in_range c.args.matching.now c.args.time c.args.resource c.requires.time c.requires.resource)

pub returns : goal.returns
returns c = same_sizes_with c.args.matching.now _ c.args.demand _ c.set_domain.ensures
