-- The parts of both slots are read from their rows.
use Rattle.std.proofs.Common.{List, Option, ap, length, slice_get, sym, ◌∙◌}
use Rattle.khe_base.specs.declared.numbers.ResourceId.{ResourceId}
use Rattle.khe_told.specs.Slots.{slot_at}
use Rattle.khe_told.proofs.TurnLaws.{places_same, turn_made}
use Rattle.khe_told.proofs.told.Told.turn_to.Goals as goal

pub differ-requires-clause-many : goal.differ-requires-clause-many
differ-requires-clause-many c =
    ap length c.given-given_after.ensures
    ∙ places_same (slot_at c.args.next.now c.args.meet.0) (slot_at c.args.self.now c.args.meet.0) c.requires.same
    ∙ sym (ap length c.given-given_before.ensures)

pub differ-requires-clause-elsewhere : goal.differ-requires-clause-elsewhere
differ-requires-clause-elsewhere c = λ j n.
    ap (λ (xs : List (Option ResourceId)). slice_get xs j) c.given-given_before.ensures ∙ c.requires.elsewhere j n
    ∙ sym (ap (λ (xs : List (Option ResourceId)). slice_get xs j) c.given-given_after.ensures)

pub returns-clause-turn : goal.returns-clause-turn
returns-clause-turn c =
    let row = c.in-Some.row in
    let is = c.in-Some.ensures in
    turn_made c.args.self.now c.args.next.now c.args.meet row.event row.span c.span-after.result
    c.given-given_before.result.now c.given-given_after.result.now is.0 is.1 is.2 c.span-after.ensures
    c.given-given_before.ensures c.given-given_after.ensures c.requires.same
