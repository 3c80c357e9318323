-- The rows are those of the instance, and nothing is given.
use Rattle.std.proofs.Common.{ap, ◌∙◌, subst, sym}
use Rattle.khe_told.specs.Stored.{AreInOrder, slots_in}
use Rattle.khe_told.proofs.OpeningLaws.{free_given}
use Rattle.khe_told.proofs.told.Told.open.Goals as goal

pub returns : goal.returns
returns c =
    let order = subst (λ n. AreInOrder 0 n c.in_ok-rows.rows.items) (sym c.task_slots.ensures)
    c.in_ok-rows.ensures.order in
    ap (λ given. slots_in 0 c.in_ok-rows.rows.items given) c.in_ok-given.ensures
    ∙ free_given 0 0 c.task_slots.result c.in_ok-rows.rows.items order
    ∙ c.in_ok-rows.ensures.slots
