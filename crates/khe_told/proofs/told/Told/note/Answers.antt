-- The rows and the task slots are turned to the state after the change.
use Rattle.std.proofs.Common.{sym, ap, ◌∙◌, arith, length, subst, List}
use Rattle.khe_told.specs.Changes.{after, meet_of}
use Rattle.khe_told.specs.Fits.{Suits}
use Rattle.khe_told.specs.Slots.{slot_at}
use Rattle.khe_told.specs.declared.slots.Slot.{Slot}
use Rattle.khe_told.proofs.StoredLaws.{length-slots_in}
use Rattle.khe_told.proofs.told.Told.note.Goals as goal

pub turn-requires-clause-there : goal.turn-requires-clause-there
turn-requires-clause-there c =
    let n = length-slots_in 0 c.self.inside.rows.items c.self.inside.given.items in
    let v = ap length c.self.view_is in
    let l = c.requires.fits.there in
    omega (arith, n, v, l)

pub turn-requires-clause-suits : goal.turn-requires-clause-suits
turn-requires-clause-suits c = subst (λ (s : List Slot). Suits (slot_at s (meet_of c.args.change)) c.args.change)
    (sym c.self.view_is) c.requires.fits.suits

pub returns : goal.returns
returns c = c.turn.ensures.slots ∙ ap (λ (s : List Slot). after s c.args.change) c.self.view_is
