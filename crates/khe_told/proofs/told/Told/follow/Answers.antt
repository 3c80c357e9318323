use Rattle.std.proofs.Common.{List, Option, ap, arith, slice_get, sym, length, ◌∙◌}
use Rattle.khe_base.specs.declared.numbers.ResourceId.{ResourceId}
use Rattle.khe_told.specs.declared.slots.Slot.{Slot}
use Rattle.khe_told.proofs.StoredLaws.{length-slots_in}
use Rattle.khe_told.proofs.TurnLaws.{places_same}
use Rattle.khe_told.specs.Slots.{slot_at}
use Rattle.khe_told.proofs.told.Told.follow.Goals as goal

pub refill-requires-clause-there : goal.refill-requires-clause-there
refill-requires-clause-there c =
    let l = length-slots_in 0 c.self.inside.rows.items c.self.inside.given.items in
    let v = ap length c.self.view_is in
    let h = c.requires.there in
    omega (arith, l, v, h)

pub refill-requires-clause-many : goal.refill-requires-clause-many
refill-requires-clause-many c =
    ap length c.given-given.ensures
    ∙ places_same (slot_at c.args.next.now c.args.meet.0) (slot_at c.args.self.now c.args.meet.0) c.requires.same
    ∙ ap (λ s. length (slot_at s c.args.meet.0).given) (sym c.self.view_is)

pub refill-requires-clause-elsewhere : goal.refill-requires-clause-elsewhere
refill-requires-clause-elsewhere c = λ j n.
    ap (λ (s : List Slot). slice_get (slot_at s c.args.meet.0).given j) c.self.view_is ∙ c.requires.elsewhere j n
    ∙ sym (ap (λ (xs : List (Option ResourceId)). slice_get xs j) c.given-given.ensures)
