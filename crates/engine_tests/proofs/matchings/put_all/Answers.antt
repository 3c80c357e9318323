use Rattle.std.proofs.Common.{◌*◌, ◌<◌, arith}
use Rattle.std.proofs.lemmas.Nat.{div_below}
use Rattle.engine_tests.proofs.MatchingLemmas.{same_sizes_trans}
use Rattle.engine_tests.proofs.matchings.put_all.Goals as goal

pub put-requires-clause-time : goal.put-requires-clause-time
put-requires-clause-time c =
    let below : c.loop-demand.demand < c.args.matching.now.last * c.args.columns = omega (arith, c.requires.last) in
    omega (
      arith,
      c.loop-demand.invariant.last,
      div_below c.loop-demand.demand c.args.columns c.args.matching.now.last
          c.requires.columns below,
    )

pub loop-demand-preserved : goal.loop-demand-preserved
loop-demand-preserved c = same_sizes_trans c.args.matching.now c.loop-demand.matching _ c.loop-demand.invariant
    c.put.ensures
