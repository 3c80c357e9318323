-- The task slots of a row are among all, and are what its places are given.
use Rattle.std.proofs.Common.{sym, ap, ◌∙◌, ◌≡◌, ◌+◌, ◌-◌, arith, List, Option, take, drop, slice_get, length, Some}
use Rattle.std.proofs.Common.{None}
use Rattle.khe_base.specs.declared.numbers.ResourceId.{ResourceId}
use Rattle.khe_told.specs.declared.rows.Row.{Row}
use Rattle.khe_told.specs.declared.slots.Slot.{Slot}
use Rattle.khe_told.proofs.StoredLaws.{slot_seen, row_to}
use Rattle.khe_told.proofs.told.Told.given.Goals as goal

pub returns-in_default : goal.returns-in_default
returns-in_default c =
    sym (ap (λ (x : Slot). x.given)
    (slot_seen c.args.self.now c.self.inside.rows.items c.deref.result.now c.self.inside.given.items c.args.meet.0 None
    c.self.view_is c.deref.ensures.value (sym c.in_default.is ∙ c.row_at.ensures)))

pub slice_bounds-result-end-2 : goal.slice_bounds-result-end-2
slice_bounds-result-end-2 c =
    let at : slice_get c.self.inside.rows.items c.args.meet.0 ≡ Some c.in-Some.row =
    ap (λ (xs : List Row). slice_get xs c.args.meet.0) (sym c.deref.ensures.value) ∙ sym c.row_at.ensures
    ∙ c.in-Some.is in
    let l = row_to 0 (length c.self.inside.given.items) c.self.inside.rows.items c.args.meet.0 c.in-Some.row
    c.self.invariant at in
    let v = ap length c.deref-2.ensures.value in
    omega (arith, l, v)

pub returns : goal.returns
returns c =
    let r = c.in-Some.row in
    let many : r.first_task + r.places - r.first_task ≡ r.places = omega arith in
    ap (λ n. take n (drop r.first_task c.deref-2.result.now)) many
    ∙ ap (λ (g : List (Option ResourceId)). take r.places (drop r.first_task g)) c.deref-2.ensures.value
    ∙ sym (ap (λ (x : Slot). x.given)
    (slot_seen c.args.self.now c.self.inside.rows.items c.deref.result.now c.self.inside.given.items c.args.meet.0
    (Some r) c.self.view_is c.deref.ensures.value (sym c.in-Some.is ∙ c.row_at.ensures)))
