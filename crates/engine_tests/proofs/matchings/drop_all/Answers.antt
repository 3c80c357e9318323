use Rattle.engine_tests.proofs.MatchingLemmas.{same_sizes_trans, same_sizes_with}
use Rattle.engine_tests.proofs.matchings.drop_all.Goals as goal

pub loop-demand-preserved : goal.loop-demand-preserved
loop-demand-preserved c = same_sizes_trans c.args.matching.now c.loop-demand.matching _ c.loop-demand.invariant
    (same_sizes_with c.loop-demand.matching _ c.loop-demand.demand _ c.set_domain.ensures)
