use Rattle.set_monitors.proofs.SpreadLaws.{AreTurned}
use Rattle.set_monitors.proofs.spread_events.turn_counts.Given as goal

abbrev pub invariant-loop-i : goal.invariant-loop-i
invariant-loop-i l = AreTurned l.before l.after l.spreads l.fn.counts.items l.counts.items l.outside l.total l.i
