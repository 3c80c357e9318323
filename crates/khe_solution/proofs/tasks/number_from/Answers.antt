use Rattle.std.proofs.Common.{◌≡◌, ◌+◌, cond, length, sym, ap, ◌∙◌, arith}
use Rattle.std.specs.Prelude.{nat_lt}
use Rattle.khe_solution.specs.TaskRows.{first_in, places}
use Rattle.khe_told.specs.Slots.{slot_at}
use Rattle.khe_solution.proofs.NumberLaws.{first_told, number_past, slots_told, tasks_told}
use Rattle.khe_solution.proofs.tasks.number_from.Goals as goal

pub returns-then-from-len : goal.returns-then-from-len
returns-then-from-len c =
    let p = c.args.inst.now in
    let s = c.args.told.now in
    let a = c.len.ensures in
    let b = c.if-from-len.true in
    c.task_slots.ensures ∙ tasks_told p s c.facts.ensures.first_meets c.requires.told
    ∙ sym (number_past s c.args.from (omega (arith, a, b)))

pub first_task-requires : goal.first_task-requires
first_task-requires c =
    let a = c.len.ensures in
    let b = c.if-from-len.false in
    let d = slots_told c.args.inst.now c.args.told.now c.facts.ensures.first_meets c.requires.told in
    omega (arith, a, b, d)

pub returns : goal.returns
returns c =
    let p = c.args.inst.now in
    let s = c.args.told.now in
    let m = c.args.from.meet.0 in
    let k = c.args.from.place in
    let first : c.first_task.result ≡ first_in s m =
    c.first_task.ensures ∙ first_told p s m c.facts.ensures.first_meets c.requires.told in
    let capped : c.least.result ≡ cond (nat_lt k (places (slot_at s m))) k (places (slot_at s m)) =
    c.least.ensures ∙ ap (λ g. cond (nat_lt k (length g)) k (length g)) c.given-places.ensures in
    λ i. first i + capped i
