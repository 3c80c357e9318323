use Rattle.std.proofs.Common.{◌≡◌, ◌+◌, true, false, Some, None, length, sym, ap, ◌∙◌, arith, subst}
use Rattle.khe_told.proofs.ValidLaws.{subst2}
use Rattle.khe_told.specs.Changes.{after, meet_of}
use Rattle.khe_told.specs.Fits.{Fits}
use Rattle.khe_told.specs.Slots.{slot_at}
use Rattle.khe_solution.specs.TaskRows.{AreAllPut, AreKept, AreTurned, first_in}
use Rattle.khe_solution.proofs.KeptLaws.{first_fits, given_there, keeps_add, keeps_drop, keeps_give, keeps_lift}
use Rattle.khe_solution.proofs.KeptLaws.{keeps_place, keeps_take, slots_fit, taken_there}
use Rattle.khe_solution.proofs.NumberLaws.{first_room}
use Rattle.khe_solution.proofs.tasks.keep_tasks.Goals as goal

pub first_task-first-requires : goal.first_task-first-requires
first_task-first-requires c =
    let a = slots_fit c.args.inst.now c.args.told.now c.args.change c.facts.ensures.first_meets c.requires.fits in
    let b = c.meet-meet.ensures in
    let d = c.requires.fits.there in
    omega (arith, a, b, d)

pub put_meet-requires-clause-number : goal.put_meet-requires-clause-number
put_meet-requires-clause-number c =
    let s = c.args.told.now in
    let m = c.meet-meet.result.0 in
    let a = c.first_task-first.ensures ∙ first_fits c.args.inst.now s c.args.change m c.facts.ensures.first_meets
    c.requires.fits in
    let b = ap length c.given.ensures in
    let d = first_room s m in
    let e = c.requires.kept.long in
    omega (arith, a, b, d, e)

pub returns-in-Add : goal.returns-in-Add
returns-in-Add c =
    let p = c.args.inst.now in
    let s = c.args.told.now in
    let t = c.args.rows.now in
    let u = c.put_meet.new.rows in
    let m = c.in-Add.meet in
    let k : c.meet-meet.result.0 ≡ m.0 = c.meet-meet.ensures ∙ ap meet_of c.in-Add.is in
    let first : c.first_task-first.result ≡ first_in s m.0 =
    c.first_task-first.ensures ∙ first_fits p s c.args.change c.meet-meet.result.0 c.facts.ensures.first_meets
    c.requires.fits ∙ ap (first_in s) k in
    let given : c.given.result.now ≡ (slot_at s m.0).given = c.given.ensures ∙ ap (λ j. (slot_at s j).given) k in
    subst (λ x. AreKept (after s x) u) (sym c.in-Add.is)
    (keeps_add p s m c.in-Add.duration t u (subst (Fits p s) c.in-Add.is c.requires.fits) c.requires.kept
    c.put_meet.ensures.rows c.put_meet.ensures.stride
    (subst2 (λ n g. AreAllPut t u n (length g) g true) first given c.put_meet.ensures.put))

pub put_meet-requires-in-Drop-clause-number : goal.put_meet-requires-in-Drop-clause-number
put_meet-requires-in-Drop-clause-number c =
    let s = c.args.told.now in
    let m = c.meet-meet.result.0 in
    let a = c.first_task-first.ensures ∙ first_fits c.args.inst.now s c.args.change m c.facts.ensures.first_meets
    c.requires.fits in
    let b = ap length c.given-in-Drop.ensures in
    let d = first_room s m in
    let e = c.requires.kept.long in
    omega (arith, a, b, d, e)

pub returns-in-Drop : goal.returns-in-Drop
returns-in-Drop c =
    let p = c.args.inst.now in
    let s = c.args.told.now in
    let t = c.args.rows.now in
    let u = c.put_meet-in-Drop.new.rows in
    let m = c.in-Drop.meet in
    let k : c.meet-meet.result.0 ≡ m.0 = c.meet-meet.ensures ∙ ap meet_of c.in-Drop.is in
    let first : c.first_task-first.result ≡ first_in s m.0 =
    c.first_task-first.ensures ∙ first_fits p s c.args.change c.meet-meet.result.0 c.facts.ensures.first_meets
    c.requires.fits ∙ ap (first_in s) k in
    let given : c.given-in-Drop.result.now ≡ (slot_at s m.0).given =
    c.given-in-Drop.ensures ∙ ap (λ j. (slot_at s j).given) k in
    subst (λ x. AreKept (after s x) u) (sym c.in-Drop.is)
    (keeps_drop p s m c.in-Drop.duration t u (subst (Fits p s) c.in-Drop.is c.requires.fits) c.requires.kept
    c.put_meet-in-Drop.ensures.rows c.put_meet-in-Drop.ensures.stride
    (subst2 (λ n g. AreAllPut t u n (length g) g false) first given c.put_meet-in-Drop.ensures.put))

pub turn-requires-clause-number : goal.turn-requires-clause-number
turn-requires-clause-number c =
    let p = c.args.inst.now in
    let s = c.args.told.now in
    let k : c.meet-meet.result.0 ≡ c.in-Give.task.meet.0 = c.meet-meet.ensures ∙ ap meet_of c.in-Give.is in
    let first : c.first_task-first.result ≡ first_in s c.in-Give.task.meet.0 =
    c.first_task-first.ensures ∙ first_fits p s c.args.change c.meet-meet.result.0 c.facts.ensures.first_meets
    c.requires.fits ∙ ap (first_in s) k in
    let a = given_there p s c.in-Give.task c.in-Give.resource (subst (Fits p s) c.in-Give.is c.requires.fits) in
    let e = c.requires.kept.long in
    omega (arith, first, a, e)

pub returns-in-Give : goal.returns-in-Give
returns-in-Give c =
    let p = c.args.inst.now in
    let s = c.args.told.now in
    let t = c.args.rows.now in
    let u = c.turn.new.rows in
    let task = c.in-Give.task in
    let r = c.in-Give.resource in
    let k : c.meet-meet.result.0 ≡ task.meet.0 = c.meet-meet.ensures ∙ ap meet_of c.in-Give.is in
    let first : c.first_task-first.result ≡ first_in s task.meet.0 =
    c.first_task-first.ensures ∙ first_fits p s c.args.change c.meet-meet.result.0 c.facts.ensures.first_meets
    c.requires.fits ∙ ap (first_in s) k in
    subst (λ x. AreKept (after s x) u) (sym c.in-Give.is)
    (keeps_give p s task r t u (subst (Fits p s) c.in-Give.is c.requires.fits) c.requires.kept c.turn.ensures.rows
    c.turn.ensures.stride
    (subst (λ n. AreTurned t u (n + task.place) None (Some r)) first c.turn.ensures.put))

pub turn-requires-in-Take-clause-number : goal.turn-requires-in-Take-clause-number
turn-requires-in-Take-clause-number c =
    let p = c.args.inst.now in
    let s = c.args.told.now in
    let k : c.meet-meet.result.0 ≡ c.in-Take.task.meet.0 = c.meet-meet.ensures ∙ ap meet_of c.in-Take.is in
    let first : c.first_task-first.result ≡ first_in s c.in-Take.task.meet.0 =
    c.first_task-first.ensures ∙ first_fits p s c.args.change c.meet-meet.result.0 c.facts.ensures.first_meets
    c.requires.fits ∙ ap (first_in s) k in
    let a = taken_there p s c.in-Take.task c.in-Take.resource (subst (Fits p s) c.in-Take.is c.requires.fits) in
    let e = c.requires.kept.long in
    omega (arith, first, a, e)

pub returns-in-Take : goal.returns-in-Take
returns-in-Take c =
    let p = c.args.inst.now in
    let s = c.args.told.now in
    let t = c.args.rows.now in
    let u = c.turn-in-Take.new.rows in
    let task = c.in-Take.task in
    let r = c.in-Take.resource in
    let k : c.meet-meet.result.0 ≡ task.meet.0 = c.meet-meet.ensures ∙ ap meet_of c.in-Take.is in
    let first : c.first_task-first.result ≡ first_in s task.meet.0 =
    c.first_task-first.ensures ∙ first_fits p s c.args.change c.meet-meet.result.0 c.facts.ensures.first_meets
    c.requires.fits ∙ ap (first_in s) k in
    subst (λ x. AreKept (after s x) u) (sym c.in-Take.is)
    (keeps_take p s task r t u (subst (Fits p s) c.in-Take.is c.requires.fits) c.requires.kept
    c.turn-in-Take.ensures.rows c.turn-in-Take.ensures.stride
    (subst (λ n. AreTurned t u (n + task.place) (Some r) None) first c.turn-in-Take.ensures.put))

pub returns-in-Place : goal.returns-in-Place
returns-in-Place c =
    let p = c.args.inst.now in
    let s = c.args.told.now in
    let t = c.args.rows.now in
    subst (λ x. AreKept (after s x) t) (sym c.in-Place.is)
    (keeps_place p s c.in-Place.meet c.in-Place.start t (subst (Fits p s) c.in-Place.is c.requires.fits)
    c.requires.kept)

pub returns-in-Lift : goal.returns-in-Lift
returns-in-Lift c =
    let p = c.args.inst.now in
    let s = c.args.told.now in
    let t = c.args.rows.now in
    subst (λ x. AreKept (after s x) t) (sym c.in-Lift.is)
    (keeps_lift p s c.in-Lift.meet c.in-Lift.start t (subst (Fits p s) c.in-Lift.is c.requires.fits) c.requires.kept)
