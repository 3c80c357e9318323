use Rattle.std.proofs.Common.{length, ap, arith}
use Rattle.hall_report.proofs.Safe.{safe}
use Rattle.hall_report.proofs.demands.Demands.places.Goals as goal

pub overflow_cast-result : goal.overflow_cast-result
overflow_cast-result c = let a = ((safe c.args.self.now.told c.args.self.now.units c.args.self.now.picks
    c.args.self.now.matching c.args.self.now.cells c.args.self.now.tasks c.args.self.now.times
    c.args.self.now.opened).readable c.args.meet.0 c.requires).0.few in let b = ap length c.given.ensures in
    omega (arith, a, b)
