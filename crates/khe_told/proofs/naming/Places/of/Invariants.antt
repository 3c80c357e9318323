-- All places but these are named by none of the changes so far.
use Rattle.khe_told.proofs.NamingLaws.{AreNamed}
use Rattle.khe_told.proofs.naming.Places.of.Given as goal

abbrev pub invariant-loop-change : goal.invariant-loop-change
invariant-loop-change l = AreNamed l.places l.changes l.change-index
