use Rattle.std.proofs.Common.{length, ap, arith}
use Rattle.hall_report.proofs.listing.list_slot.Goals as goal

pub overflow_cast-places : goal.overflow_cast-places
overflow_cast-places c = let a = c.requires.readable.few in let b = ap length c.given.ensures in omega (arith, a, b)
