-- The places before the next one are given what they are to be given.
use Rattle.std.proofs.Common.{◌-◌, length}
use Rattle.khe_told.specs.Stored.{slots_in}
use Rattle.khe_told.proofs.PuttingLaws.{IsPut}
use Rattle.khe_told.proofs.filling.refill.Given as goal

abbrev pub invariant-loop-place : goal.invariant-loop-place
invariant-loop-place l = IsPut l.rows.items l.given.items (slots_in 0 l.fn.rows.items l.fn.given.items) l.fn.meet.0 l.fn.span
    l.resources l.row l.place

abbrev pub decreases-loop-place : goal.decreases-loop-place
decreases-loop-place l = length l.resources - l.place
