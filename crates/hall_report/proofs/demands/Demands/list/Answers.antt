use Rattle.std.proofs.Common.{length, ap, arith}
use Rattle.hall_report.proofs.Safe.{safe}
use Rattle.hall_report.proofs.demands.Demands.list.Goals as goal

pub list_tasks-requires-clause-few : goal.list_tasks-requires-clause-few
list_tasks-requires-clause-few c = (safe c.args.self.now.told c.args.self.now.units c.args.self.now.picks
    c.args.self.now.matching c.args.self.now.cells c.args.self.now.tasks c.args.self.now.times
    c.args.self.now.opened).few

pub list_tasks-requires-clause-readable : goal.list_tasks-requires-clause-readable
list_tasks-requires-clause-readable c = (safe c.args.self.now.told c.args.self.now.units c.args.self.now.picks
    c.args.self.now.matching c.args.self.now.cells c.args.self.now.tasks c.args.self.now.times
    c.args.self.now.opened).readable

pub list_cells-requires-clause-few : goal.list_cells-requires-clause-few
list_cells-requires-clause-few c = let a = (safe c.args.self.now.told c.args.self.now.units c.args.self.now.picks
    c.args.self.now.matching c.args.self.now.cells c.args.self.now.tasks c.args.self.now.times
    c.args.self.now.opened).total in let b = ap length c.as_slice.ensures in omega (arith, a, b)

pub list_cells-requires-clause-times : goal.list_cells-requires-clause-times
list_cells-requires-clause-times c = λ l. let b = ap length c.as_slice.ensures in
    (safe c.args.self.now.told c.args.self.now.units c.args.self.now.picks c.args.self.now.matching
    c.args.self.now.cells c.args.self.now.tasks c.args.self.now.times c.args.self.now.opened).timed
    (omega (arith, b, l))
