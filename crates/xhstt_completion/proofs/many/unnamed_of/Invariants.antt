-- So far the set has the resources of the places without a role.
use Rattle.std.proofs.Common.{ℕ, ◌≡◌, None, Some, length, take}
use Rattle.std.specs.List.{list_any}
use Rattle.khe_base.specs.IdSet.{has_member}
use Rattle.xhstt_completion.specs.Causes.{is_place_for}
use Rattle.xhstt_completion.proofs.many.unnamed_of.Given as goal

abbrev pub invariant-loop-place : goal.invariant-loop-place
invariant-loop-place l = record {
  many : length l.unnamed ≡ length l.inst.resources;
  has : (r : ℕ) → has_member l.unnamed r
      ≡ list_any (is_place_for (Some (record { 0 = r })) None) (take l.place-index l.places);
}
