use Rattle.std.proofs.Common.{◌≡◌, true, length, ap, ◌∙◌, arith}
use Rattle.khe_told.proofs.ValidLaws.{subst2}
use Rattle.khe_solution.specs.TaskRows.{AreAllPut, first_in}
use Rattle.khe_solution.proofs.KeptLaws.{entered_free, entered_live}
use Rattle.khe_solution.proofs.NumberLaws.{first_room, first_told, slots_told}
use Rattle.khe_solution.proofs.tasks.enter.Goals as goal

pub first_task-requires : goal.first_task-requires
first_task-requires c =
    let a = slots_told c.args.inst.now c.args.told.now c.facts.ensures.first_meets c.requires.told in
    let b = c.requires.there in
    omega (arith, a, b)

pub put_meet-requires-clause-number : goal.put_meet-requires-clause-number
put_meet-requires-clause-number c =
    let s = c.args.told.now in
    let m = c.args.meet.0 in
    let a = c.first_task.ensures ∙ first_told c.args.inst.now s m c.facts.ensures.first_meets c.requires.told in
    let b = ap length c.given.ensures in
    let d = first_room s m in
    let e = c.requires.before.long in
    omega (arith, a, b, d, e)

pub returns-in-Some : goal.returns-in-Some
returns-in-Some c =
    let s = c.args.told.now in
    let m = c.args.meet.0 in
    let t = c.args.rows.now in
    let u = c.put_meet.new.rows in
    let a : c.first_task.result ≡ first_in s m = c.first_task.ensures
    ∙ first_told c.args.inst.now s m c.facts.ensures.first_meets c.requires.told in
    entered_live s m t u c.in-Some.ensures.live c.requires.before c.put_meet.ensures.rows c.put_meet.ensures.stride
    (subst2 (λ n g. AreAllPut t u n (length g) g true) a c.given.ensures c.put_meet.ensures.put)

pub returns-in-None : goal.returns-in-None
returns-in-None c = entered_free c.args.told.now c.args.meet.0 c.args.rows.now c.in-None.ensures c.requires.before
