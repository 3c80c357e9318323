-- The time groups so far.
use Rattle.std.proofs.Common.{◌≡◌, take, map}
use Rattle.xhstt_resolve.specs.Rules.{spread_of}
use Rattle.xhstt_resolve.proofs.rules.spreads_of.Given as goal

abbrev pub invariant-loop-spread : goal.invariant-loop-spread
invariant-loop-spread l = l.made ≡ map (spread_of l.lookup.instance.now) (take l.spread-index l.spreads)
