use Rattle.std.proofs.Common.{Some, None, subst, arith}
use Rattle.std.proofs.lemmas.Option.{slice_get_within}
use Rattle.khe_told.specs.Fits.{Fits}
use Rattle.khe_told.specs.Slots.{slot_at}
use Rattle.khe_told.specs.declared.changes.Change.TheVariants.{Give, Take}
use Rattle.hall_report.proofs.Following.{turns_give, turns_take}
use Rattle.hall_report.proofs.Safe.{safe}
use Rattle.hall_report.proofs.demands.Demands.tell.Goals as goal

pub overflow_add-task : goal.overflow_add-task
overflow_add-task c =
    let fits : Fits c.args.inst.now c.args.self.now.told (Give c.in-Give.task c.in-Give.resource) =
    subst (Fits c.args.inst.now c.args.self.now.told) c.in-Give.is c.requires.fits in
    let a = slice_get_within (slot_at c.args.self.now.told c.in-Give.task.meet.0).given c.in-Give.task.place None
    fits.suits.2 in
    let b = ((safe c.args.self.now.told c.args.self.now.units c.args.self.now.picks c.args.self.now.matching
    c.args.self.now.cells c.args.self.now.tasks c.args.self.now.times c.args.self.now.opened).readable
    c.in-Give.task.meet.0 fits.there).0.few in
    omega (arith, a, b)

pub turn-requires-in-Give-clause-turns : goal.turn-requires-in-Give-clause-turns
turn-requires-in-Give-clause-turns c = turns_give c.args.inst.now c.args.self.now.told c.in-Give.task
    c.in-Give.resource (subst (Fits c.args.inst.now c.args.self.now.told) c.in-Give.is c.requires.fits)

pub overflow_add-task-in-Take : goal.overflow_add-task-in-Take
overflow_add-task-in-Take c =
    let fits : Fits c.args.inst.now c.args.self.now.told (Take c.in-Take.task c.in-Take.resource) =
    subst (Fits c.args.inst.now c.args.self.now.told) c.in-Take.is c.requires.fits in
    let a = slice_get_within (slot_at c.args.self.now.told c.in-Take.task.meet.0).given c.in-Take.task.place
    (Some c.in-Take.resource) fits.suits.2 in
    let b = ((safe c.args.self.now.told c.args.self.now.units c.args.self.now.picks c.args.self.now.matching
    c.args.self.now.cells c.args.self.now.tasks c.args.self.now.times c.args.self.now.opened).readable
    c.in-Take.task.meet.0 fits.there).0.few in
    omega (arith, a, b)

pub turn-requires-in-Take-clause-turns : goal.turn-requires-in-Take-clause-turns
turn-requires-in-Take-clause-turns c = turns_take c.args.inst.now c.args.self.now.told c.in-Take.task
    c.in-Take.resource (subst (Fits c.args.inst.now c.args.self.now.told) c.in-Take.is c.requires.fits)
