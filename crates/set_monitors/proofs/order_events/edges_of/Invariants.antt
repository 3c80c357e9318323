use Rattle.set_monitors.proofs.OrderTurnLaws.{AreOpened}
use Rattle.set_monitors.proofs.order_events.edges_of.Given as goal

abbrev pub invariant-loop-i : goal.invariant-loop-i
invariant-loop-i l = AreOpened l.inst l.lists l.edges.items l.i
