-- A slot below the sum of the durations stands in the list of slots.
use Rattle.std.proofs.Common.{◌≡◌, ◌<◌, ◌∙◌, sym, ap, subst, length, get_or, arith, slice_get}
use Rattle.std.proofs.lemmas.Option.{get_or_from_slice_get}
use Rattle.khe_instance.specs.Slots.{slots_from, HasSlot}
use Rattle.khe_instance.specs.SlotTables.{IsSlotTable}
use Rattle.khe_instance.specs.WellMade.{AreWellMade}
use Rattle.khe_instance.specs.declared.parts.Parts.{Parts}
use Rattle.khe_instance.proofs.SlotsLemmas.{length-slots_from, slot-event}
use Rattle.khe_instance.proofs.TasksLemmas.{table-slots}
use Rattle.khe_instance.proofs.instances.Instance.event_of.Goals as goal

pub event_of-requires : goal.event_of-requires
event_of-requires c =
    let table = subst (λ (p : Parts). IsSlotTable p.events c.self.inside.slots) c.self.view_is c.self.invariant.1 in
    omega (arith, table-slots c.args.self.now.events c.self.inside.slots table, c.requires)

pub returns : goal.returns
returns c =
    let table = subst (λ (p : Parts). IsSlotTable p.events c.self.inside.slots) c.self.view_is c.self.invariant.1 in
    let made = subst AreWellMade c.self.view_is c.self.invariant.0 in
    let events = c.args.self.now.events in
    let slot = c.args.meet.0 in
    let at : get_or (slots_from 0 events) slot 0 ≡ c.event_of.result =
    get_or_from_slice_get (slots_from 0 events) slot c.event_of.result 0
    (ap (λ xs. slice_get xs slot) (sym table.slots_are) ∙ c.event_of.ensures) in
    let within : slot < length (slots_from 0 events) = omega (arith, length-slots_from 0 events, c.requires) in
    subst (λ e. HasSlot events e slot) at (slot-event slot events made.first_meets within)
