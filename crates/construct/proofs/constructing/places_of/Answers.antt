-- The slot is one of an event of the instance, and has an entry for each place.
use Rattle.std.proofs.Common.{length, ap, sym, ◌∙◌, arith}
use Rattle.std.specs.Option.{option_map_or}
use Rattle.std.proofs.lemmas.Option.{slice_get_within}
use Rattle.khe_instance.specs.declared.parts.EventInfo.{EventInfo}
use Rattle.khe_solution.proofs.NumberLaws.{slots_told}
use Rattle.khe_told.proofs.FillingLaws.{slot_of}
use Rattle.khe_told.proofs.ValidLaws.{subst2}
use Rattle.khe_told.specs.Fits.{AreTold}
use Rattle.construct.proofs.BeginLaws.{places_room}
use Rattle.construct.proofs.constructing.places_of.Goals as goal

pub event_of-requires : goal.event_of-requires
event_of-requires g c =
    let told = subst2 AreTold (c.solution.ensures.parts ∙ sym c.instance-inst.ensures) c.solution.ensures.slots
    c.facts-2.ensures.told in
    let many = slots_told c.instance-inst.result.now c.args.engine.now.state.slots c.facts.ensures.first_meets told in
    omega (arith, many, c.requires)

pub event-requires : goal.event-requires
event-requires g c =
    slice_get_within c.instance-inst.result.now.events c.event_of.result.0 c.event_of.ensures.0 c.event_of.ensures.1

pub overflow_cast-result : goal.overflow_cast-result
overflow_cast-result g c =
    let few = places_room c.instance-inst.result.now c.event_of.result.0 c.event.result.now c.facts.ensures
    c.event.ensures in
    let many = c.len.ensures in
    omega (arith, few, many)

pub returns : goal.returns
returns g c =
    let told = subst2 AreTold (c.solution.ensures.parts ∙ sym c.instance-inst.ensures) c.solution.ensures.slots
    c.facts-2.ensures.told in
    let r = slot_of c.instance-inst.result.now c.args.engine.now.state.slots c.event_of.result.0 c.args.meet.0
    c.facts.ensures.first_meets told.whose c.event_of.ensures in
    c.len.ensures ∙ sym (ap (λ o. option_map_or (λ (x : EventInfo). length x.places) o 0) c.event.ensures) ∙ sym r.many
