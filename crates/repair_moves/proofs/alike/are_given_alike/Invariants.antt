use Rattle.std.proofs.Common.{ℕ, ◌≡◌, ◌<◌}
use Rattle.khe_told.specs.Slots.{given_at, slot_at}
use Rattle.repair_moves.proofs.alike.are_given_alike.Given as goal

abbrev pub invariant-loop-place : goal.invariant-loop-place
invariant-loop-place l = (k : ℕ) → k < l.place
    → given_at (slot_at l.solution.slots l.a.0) k ≡ given_at (slot_at l.solution.slots l.b.0) k
