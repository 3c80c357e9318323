-- The slots are those of the events.
use Rattle.std.proofs.Common.{◌∙◌, subst, arith}
use Rattle.khe_instance.specs.SlotTables.{IsSlotTable}
use Rattle.khe_instance.specs.WellMade.{AreWellMade}
use Rattle.khe_instance.specs.declared.parts.Parts.{Parts}
use Rattle.khe_instance.proofs.TasksLemmas.{table-slots}
use Rattle.khe_instance.proofs.instances.Instance.meet_slots.Goals as goal

pub meet_slots-requires : goal.meet_slots-requires
meet_slots-requires c =
    let table = subst (λ (p : Parts). IsSlotTable p.events c.self.inside.slots) c.self.view_is c.self.invariant.1 in
    let made = subst AreWellMade c.self.view_is c.self.invariant.0 in
    omega (arith, table-slots c.args.self.now.events c.self.inside.slots table, made.limits.duration)

pub returns : goal.returns
returns c =
    let table = subst (λ (p : Parts). IsSlotTable p.events c.self.inside.slots) c.self.view_is c.self.invariant.1 in
    c.meet_slots.ensures ∙ table-slots c.args.self.now.events c.self.inside.slots table
