-- What is left goes on from what was met.
use Rattle.std.proofs.Common.{◌≡◌, drop, map}
use Rattle.std.specs.List.{enumerate_from, fold}
use Rattle.xhstt_resolve.specs.Followed.{pair_visit, pair_visits}
use Rattle.xhstt_resolve.proofs.points.follow_pairs.Given as goal

abbrev pub invariant-loop-number : goal.invariant-loop-number
invariant-loop-number g l =
    fold g.F.Follow.met l.into (map (pair_visit l.lookup.instance.now)
    (enumerate_from l.number (drop l.number l.pairs)))
    ≡ fold g.F.Follow.met l.fn.into (pair_visits l.lookup.instance.now l.pairs)
