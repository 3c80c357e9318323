-- The tasks are those of the events.
use Rattle.std.proofs.Common.{◌∙◌, subst}
use Rattle.khe_instance.specs.SlotTables.{IsSlotTable}
use Rattle.khe_instance.specs.declared.parts.Parts.{Parts}
use Rattle.khe_instance.proofs.instances.Instance.task_slots.Goals as goal

pub returns : goal.returns
returns c =
    let table = subst (λ (p : Parts). IsSlotTable p.events c.self.inside.slots) c.self.view_is c.self.invariant.1 in
    c.task_slots.ensures ∙ table.tasks_are.count_is
