-- The place is one that is left.
use Rattle.std.proofs.Common.{◌≡◌, drop, Some}
use Rattle.std.specs.Prelude.{find}
use Rattle.xhstt_completion.specs.Causes.{is_place_for}
use Rattle.xhstt_completion.specs.Entries.{role_of}
use Rattle.xhstt_completion.proofs.causes.place_for.Given as goal

abbrev pub invariant-loop-place : goal.invariant-loop-place
invariant-loop-place l =
    find (is_place_for (Some l.resource) (role_of l.given)) (drop l.place-index l.places)
    ≡ find (is_place_for (Some l.resource) (role_of l.given)) l.places
